-- What the objects cost that are kept as bases.
use Rattle.std.specs.Prelude.{ℕ, ◌+◌, List, vec_len}
use Rattle.std.specs.List.{sum_by}
use Rattle.std.specs.Map.{values_of}
use Rattle.git_objects.specs.declared.object.Object.{Object}
use Rattle.git_objects.specs.declared.bases.Spot.{Spot}

-- what an object costs: its bytes and 256 more
abbrev pub object_cost : Object → ℕ
object_cost object = vec_len object.content + 256

-- what all the objects that are kept cost
abbrev pub whole_cost : List (Spot × Object) → ℕ
whole_cost entries = sum_by object_cost (values_of entries)
