-- What the code holds, as entries and bytes.
use Rattle.std.specs.Prelude.{ℕ, List, ◌++◌, take}
use Rattle.git_index.specs.declared.entry.Entry.{Entry}
use Rattle.git_index.specs.declared.entry_bytes.EntryHead.{EntryHead}
use Rattle.git_index.specs.declared.entry_bytes.Found.{Found}
use Rattle.git_index.specs.declared.path_part.PathPart.{PathPart}

-- a path: what is kept of the one before, and what is added
abbrev pub joined_path : List ℕ → PathPart → List ℕ
joined_path last p = take p.kept last ++ p.added.now

-- the same, and the bytes after it
abbrev pub path_and_rest : List ℕ → PathPart → List ℕ × List ℕ
path_and_rest last p = (joined_path last p, p.rest.now)

-- the length of a fixed part, and its 16 more bits
abbrev pub head_of : EntryHead → ℕ × ℕ
head_of h = (h.length, h.more)

-- an entry, and the bytes after it
abbrev pub found_of : Found → Entry × List ℕ
found_of f = (f.entry, f.rest.now)
