-- The path of a file in a folder. The empty text names no folder, so nothing in it has a path.
use Rattle.std.specs.Prelude.{ℕ, ◌==◌, if◌then◌else◌, List, [], ◌++◌, length, codes}

abbrev pub path_in : List ℕ → List ℕ → List ℕ
path_in folder file = if length folder == 0 then [] else folder ++ codes "/" ++ file
