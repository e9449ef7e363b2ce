-- Where an object's file is.
use Rattle.std.specs.Prelude.{ℕ, List, take, drop}
use Rattle.hex.specs.Hex.{encode_lower}
use Rattle.edge_adapters.specs.Paths.{path_in}

-- in a folder by the first two digits of the object's name
abbrev pub folder_of : List ℕ → List ℕ → List ℕ
folder_of objects name = path_in objects (encode_lower (take 1 name))

-- and there under the other 38
abbrev pub file_of : List ℕ → List ℕ → List ℕ
file_of folder name = path_in folder (encode_lower (drop 1 name))
