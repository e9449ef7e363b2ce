use Rattle.std.proofs.Common.{◌≡◌, ℕ, List, length, take, drop}
use Rattle.std.specs.BTreeMap.{get}
use Rattle.std.specs.Cmp.Lexicographic.{slice_cmp}
use Rattle.std.specs.Ordering.{nat_cmp}
use Rattle.edge_kit.specs.Memory.{object_at, first_object}
use Rattle.edge_kit.proofs.memory_repo.places_of.Given as goal

abbrev pub invariant-loop-object : goal.invariant-loop-object
invariant-loop-object l = record {
  rest : l.rest ≡ take (length l.rest) l.objects;
  right : (name : List ℕ) → object_at l.objects (get (slice_cmp nat_cmp) l.places name) ≡ first_object (drop (length l.rest) l.objects) name;
}

abbrev pub decreases-loop-object : goal.decreases-loop-object
decreases-loop-object l = length l.rest
