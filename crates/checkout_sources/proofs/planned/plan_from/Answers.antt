use Rattle.std.proofs.Common.{List, refl, sym, subst}
use Rattle.git_index.specs.declared.entry.Entry.{Entry}
use Rattle.checkout_sources.specs.Reading.{IsWithin}
use Rattle.checkout_sources.proofs.PlanFaults.{fault_within, plan_is_read, stops_by}
use Rattle.checkout_sources.proofs.planned.plan_from.Goals as goal

pub returns-in-Ok-clause-reads : goal.returns-in-Ok-clause-reads
returns-in-Ok-clause-reads g c = record {
  read = plan_is_read _ _ _ _ _ _ _ c.requires c.in-Ok.ensures.made c.in-Ok.ensures.returned c.in-Ok.ensures.kept;
  workers = refl;
  threshold = refl;
}

pub stop_of-requires : goal.stop_of-requires
stop_of-requires g c = subst (λ (es : List Entry). IsWithin es c.in-Err.fault) (sym c.entries.ensures) (fault_within _ _ _ _ _ c.in-Err.ensures.made)

pub returns-clause-reads : goal.returns-clause-reads
returns-clause-reads g c = stops_by _ _ _ _ _ _ c.requires c.in-Err.ensures.kept _ _ _ c.in-Err.ensures.made c.in-Err.ensures.returned c.entries.ensures c.stop_of.ensures
