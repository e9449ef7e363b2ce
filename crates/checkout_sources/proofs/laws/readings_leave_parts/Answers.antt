use Rattle.checkout_sources.proofs.CutShort.{plan_part, refused_part, refused_steady, cut_short_steady}
use Rattle.checkout_sources.proofs.laws.readings_leave_parts.Goals as goal

pub returns : goal.returns
returns c = record {
  after_plan = plan_part;
  after_refusal = refused_part;
  refused_steady = refused_steady;
  cut_short_steady = cut_short_steady;
}
