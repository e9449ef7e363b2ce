use Rattle.checkout_words.proofs.Tails.{finds_fault, finds_rows, left_holds}
use Rattle.checkout_words.proofs.tail.matches_in.Goals as goal

pub returns-in-Ok : goal.returns-in-Ok
returns-in-Ok c = finds_rows _ _ _ (c.in-Ok.ensures.kinds c.requires) (c.in-Ok.ensures.matches (left_holds _ _ c.requires)).0

pub returns-in-Err : goal.returns-in-Err
returns-in-Err c = finds_fault _ _ c.in-Err.error _ (c.in-Err.ensures.kinds c.requires) (rw c.kind.ensures at c.fault_of_kind.ensures)
