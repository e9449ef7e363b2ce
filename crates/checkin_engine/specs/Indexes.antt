-- The index of what was checked in.
use Rattle.std.specs.Prelude.{ℕ, List, [], ◌∷◌, flat_map, if◌then◌else◌}
use Rattle.std.specs.Str.{bytes_eq}
use Rattle.git_index.specs.declared.entry.Entry.{Entry}
use Rattle.checkin_paths.specs.declared.path.CheckinPath.{CheckinPath}
use Rattle.checkin_paths.specs.declared.fate.Fate.{Fate}
use Rattle.checkin_paths.specs.declared.fate.Fate.TheVariants.{Same, Changed, Gone, Kept, Failed}

abbrev pub with_name : List ℕ → Entry → Entry
with_name name e = record e { name = name }

-- an entry after a check-in: a changed one has its new name, and one that is gone is left out
abbrev pub entry_after : Fate → Entry → List Entry
entry_after (Changed name) e = with_name name e ∷ []
entry_after Gone e = []
entry_after Same e = e ∷ []
entry_after Kept e = e ∷ []
entry_after (Failed cause) e = e ∷ []

-- the fate of the path with that name; the entries of any other name stay
abbrev pub fate_at : List CheckinPath → List Fate → List ℕ → Fate
fate_at [] fates name = Kept
fate_at (p ∷ ps) [] name = Kept
fate_at (p ∷ ps) (fate ∷ fates) name = if bytes_eq p.path name then fate else fate_at ps fates name

-- the entries after a check-in in which the paths came to these fates
abbrev pub new_entries : List CheckinPath → List Fate → List Entry → List Entry
new_entries ps fates es = flat_map (λ e. entry_after (fate_at ps fates e.path) e) es
