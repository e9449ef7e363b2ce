use Rattle.std.proofs.Common.{◌≡◌, ℕ, List, length, take, drop}
use Rattle.attr_stack.specs.Levels.{place_in, place_from}
use Rattle.attr_stack.proofs.folders.places_of.Given as goal

abbrev pub invariant-loop-at : goal.invariant-loop-at
invariant-loop-at l = record {
  rest : l.rest ≡ take (length l.rest) l.files;
  places : (folder : List ℕ) → place_in l.places folder ≡ place_from (length l.rest) (drop (length l.rest) l.files) folder;
}

abbrev pub decreases-loop-at : goal.decreases-loop-at
decreases-loop-at l = length l.rest
