-- How a content is stored, and where.
use Rattle.std.specs.Prelude.{ℕ, List, ◌∷◌, ◌++◌, length, take, drop, codes}
use Rattle.std.specs.Fmt.{decimal}
use Rattle.hex.specs.Hex.{encode_lower}

-- the stored bytes of a content
abbrev pub spelled_blob : List ℕ → List ℕ
spelled_blob content = codes "blob " ++ decimal (length content) ++ 0 ∷ content

-- the path of an object's file in the repository
abbrev pub path_of : List ℕ → List ℕ
path_of name = codes "objects/" ++ encode_lower (take 1 name) ++ codes "/" ++ encode_lower (drop 1 name)
