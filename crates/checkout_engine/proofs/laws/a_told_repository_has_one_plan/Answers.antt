use Rattle.checkout_engine.proofs.SamePlan.{one_plan}
use Rattle.checkout_engine.proofs.laws.a_told_repository_has_one_plan.Goals as goal

pub returns : goal.returns
returns c = one_plan c.one_reading.ensures
