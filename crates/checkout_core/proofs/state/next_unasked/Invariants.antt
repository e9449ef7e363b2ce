use Rattle.std.proofs.Common.{◌≡◌, ℕ, ◌<◌, ◌≤◌, Some, false}
use Rattle.std.specs.Prelude.{slice_get}
use Rattle.checkout_core.specs.declared.path.Path.{Path}
use Rattle.checkout_core.specs.Cursors.{asks}
use Rattle.checkout_core.proofs.state.next_unasked.Given as goal

abbrev pub invariant-loop-at : goal.invariant-loop-at
invariant-loop-at l = (p : ℕ) (r : Path) → l.from ≤ p → p < l.at → slice_get l.paths p ≡ Some r
    → asks l.driver r ≡ false
