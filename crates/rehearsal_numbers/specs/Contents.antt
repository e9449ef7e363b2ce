-- The contents of a rehearsal and their names.
use Rattle.std.specs.Prelude.{◌≡◌, ℕ, List}
use Rattle.sha1.specs.Sha1.{sha1}
use Rattle.object_dir.specs.Spelling.{spelled_blob}
use Rattle.rehearsal.specs.Paths.{content}
use Rattle.rehearsal.specs.Repository.{attributes}

-- the name of the object of a content
abbrev pub name_of : List ℕ → List ℕ
name_of text = sha1 (spelled_blob text)

-- Two contents of a rehearsal with one name are one, and none has the name of the attribute file.
pub record ContentsAreApart : Type 0 where
  pub files : (seed i j : ℕ) → name_of (content seed i) ≡ name_of (content seed j) → content seed i ≡ content seed j
  pub attributes : (seed i : ℕ) → name_of (content seed i) ≡ name_of attributes → content seed i ≡ attributes
