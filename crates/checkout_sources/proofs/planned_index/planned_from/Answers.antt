use Rattle.std.proofs.Common.{List, sym, subst}
use Rattle.git_index.specs.declared.entry.Entry.{Entry}
use Rattle.checkout_sources.specs.Reading.{IsWithin}
use Rattle.checkout_sources.proofs.PlanFaults.{fault_within, index_is_planned, stops_by}
use Rattle.checkout_sources.proofs.planned_index.planned_from.Goals as goal

pub returns-in-Ok-clause-reads : goal.returns-in-Ok-clause-reads
returns-in-Ok-clause-reads g c = index_is_planned _ _ _ _ _ _ _ _ c.requires.sources c.requires.config c.in-Ok.ensures.made c.in-Ok.ensures.returned c.in-Ok.ensures.kept

pub stop_of-requires : goal.stop_of-requires
stop_of-requires g c = subst (λ (es : List Entry). IsWithin es c.in-Err.fault) (sym c.entries.ensures) (fault_within _ _ _ _ _ c.in-Err.ensures.made)

pub returns-in-Err-clause-reads : goal.returns-in-Err-clause-reads
returns-in-Err-clause-reads g c = stops_by _ _ _ _ _ _ c.requires.sources c.in-Err.ensures.kept _ _ _ c.in-Err.ensures.made c.in-Err.ensures.returned c.entries.ensures c.stop_of.ensures
