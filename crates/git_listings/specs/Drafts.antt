-- The files that drafts give.
use Rattle.std.specs.Prelude.{ℕ, ◌==◌, List, [], ◌∷◌, length}
use Rattle.attr_line.specs.File.{attributes_at}
use Rattle.attr_stack.specs.declared.files.FileAt.{FileAt}
use Rattle.git_listings.specs.declared.script.Draft.{Draft}
use Rattle.git_listings.specs.declared.script.Place.{Place}
use Rattle.git_listings.specs.declared.script.Place.TheVariants.{Info, Base, Folder}

-- a folder's draft gives its attribute file; the top folder has the empty name
abbrev pub files_at : List ℕ → Place → List FileAt
files_at text Info = []
files_at text Base = []
files_at text (Folder folder) = record { folder = folder; file = attributes_at text (length folder == 0) } ∷ []

abbrev pub files_of : Draft → List FileAt
files_of draft = files_at draft.text.items draft.place
