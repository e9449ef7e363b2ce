use Rattle.std.proofs.Common.{◌≡◌, true, false, sym, ap, ◌∙◌}
use Rattle.checkout_engine.specs.Rehearsed.{is_memory}
use Rattle.checkout_engine.proofs.Completeness.{stops_for_memory}
use Rattle.checkout_engine.proofs.rehearsed.valid_plan.Goals as goal

pub prove-unreachable-requires : goal.prove-unreachable-requires
prove-unreachable-requires g c =
    let only = stops_for_memory (c.one_reading.ensures, c.index_has_no_fault.ensures) _ _ _ c.in-Err.stop c.requires c.in-Err.ensures.reads in
    let no : true ≡ false = sym (ap is_memory only) ∙ sym c.is_memory-ran_out.ensures ∙ c.if-prove.true in absurd cc
