use Rattle.std.proofs.Common.{◌≡◌, ℕ, List, length, take, drop}
use Rattle.checkout_plan.specs.Paths.{place_named}
use Rattle.checkout_plan.specs.Seen.{place_in}
use Rattle.checkout_plan.proofs.starts.places_of.Given as goal

abbrev pub invariant-loop-driver : goal.invariant-loop-driver
invariant-loop-driver l = record {
  rest : l.rest ≡ take (length l.rest) l.drivers;
  places : (name : List ℕ) → place_in l.places name ≡ place_named (length l.rest) (drop (length l.rest) l.drivers) name;
}

abbrev pub decreases-loop-driver : goal.decreases-loop-driver
decreases-loop-driver l = length l.rest
