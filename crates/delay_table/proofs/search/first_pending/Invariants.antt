use Rattle.std.proofs.Common.{◌≡◌, ◌≤◌, ◌<◌, ◌-◌, ℕ, false, length}
use Rattle.std.specs.Prelude.{slice_get}
use Rattle.delay_table.specs.Table.{is_pending}
use Rattle.delay_table.proofs.search.first_pending.Given as goal

abbrev pub invariant-loop-at : goal.invariant-loop-at
invariant-loop-at l = record {
  within : l.at ≤ length l.places;
  up : l.from ≤ l.at;
  none : (q : ℕ) → l.from ≤ q → q < l.at → is_pending (slice_get l.places q) ≡ false;
}

abbrev pub decreases-loop-at : goal.decreases-loop-at
decreases-loop-at l = length l.places - l.at
