-- What files in memory tell, and what a keeper in memory has.
use Rattle.std.specs.Prelude.{ℕ, List, [], ◌∷◌, Option, Some, None, if◌then◌else◌}
use Rattle.std.specs.List.{list_any}
use Rattle.std.specs.Str.{bytes_eq}
use Rattle.std.specs.Global.{Vec}
use Rattle.edge_kit.specs.Told.{Told, Raw, Absent, Failing}
use Rattle.edge_kit.specs.declared.tree_file.TreeFile.{TreeFile}

-- the first file with that path
abbrev pub first_file : List TreeFile → List ℕ → Told
first_file [] path = Absent
first_file (f ∷ fs) path = if bytes_eq f.path path then Raw f.bytes else first_file fs path

-- the paths at which taking fails go before the files
abbrev pub file_told : List TreeFile → List (List ℕ) → List ℕ → Told
file_told files fails path = if list_any (λ f. bytes_eq f path) fails then Failing else first_file files path

-- the last index of a keeper in memory
abbrev pub last_index : Option (Vec ℕ) → Option (List ℕ)
last_index None = None
last_index (Some bytes) = Some bytes.items
