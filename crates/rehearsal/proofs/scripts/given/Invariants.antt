use Rattle.std.proofs.Common.{◌≡◌, ◌++◌, ℕ, List, length}
use Rattle.rehearsal.specs.Drivers.{given}
use Rattle.rehearsal.proofs.scripts.given.Given as goal

abbrev pub invariant-loop-last : goal.invariant-loop-last
invariant-loop-last l =
    (after : List ℕ) × (l.numbers ≡ l.rest ++ after) × (l.later.items ≡ given l.seed after)

abbrev pub decreases-loop-last : goal.decreases-loop-last
decreases-loop-last l = length l.rest
