-- An index with one more extension.
use Rattle.std.specs.Prelude.{ℕ, ◌-◌, List, ◌++◌, length, take, codes}
use Rattle.sha1.specs.Sha1.{sha1}
use Rattle.git_index.specs.Spelling.{Extension, spelled_extension}

-- the extension `TREE` with this content
abbrev pub tree_extension : List ℕ → Extension
tree_extension content = record { signature = codes "TREE"; content = content }

-- all but the hash, and the extension
abbrev pub extended_body : List ℕ → List ℕ → List ℕ
extended_body index content = take (length index - 20) index ++ spelled_extension (tree_extension content)

-- the index with the tree cache behind its other extensions, and the hash of all that
abbrev pub with_extension : List ℕ → List ℕ → List ℕ
with_extension index content = extended_body index content ++ sha1 (extended_body index content)
