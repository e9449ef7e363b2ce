use Rattle.std.proofs.Common.{◌≡◌, ℕ, ◌<◌, ◌≤◌, Some, false}
use Rattle.std.specs.Prelude.{slice_get}
use Rattle.checkout_book.proofs.waiting.first_from.Given as goal

abbrev pub invariant-loop-at : goal.invariant-loop-at
invariant-loop-at l = (p : ℕ) → l.from ≤ p → p < l.at → slice_get l.flags p ≡ Some false
