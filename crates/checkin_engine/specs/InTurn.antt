-- The entries after a check-in as the code makes them, with the fates of the paths in turn.
use Rattle.std.specs.Prelude.{ℕ, List, [], ◌∷◌, ◌++◌, if◌then◌else◌}
use Rattle.std.specs.Str.{bytes_eq}
use Rattle.git_index.specs.declared.entry.Entry.{Entry}
use Rattle.checkin_paths.specs.declared.fate.Fate.{Fate}
use Rattle.checkin_paths.specs.declared.fate.Fate.TheVariants.{Kept}
use Rattle.checkin_engine.specs.Indexes.{entry_after}

-- the next fate, and what follows it; without one an entry stays
abbrev pub next_fate : List Fate → Fate
next_fate [] = Kept
next_fate (fate ∷ fates) = fate

abbrev pub fates_behind : List Fate → List Fate
fates_behind [] = []
fates_behind (fate ∷ fates) = fates

-- an entry of the path before has its fate, and any other one the next fate
abbrev pub entries_after : Fate → List ℕ → List Entry → List Fate → List Entry
entries_after fate before [] fates = []
entries_after fate before (e ∷ es) fates =
    if bytes_eq e.path before then entry_after fate e ++ entries_after fate before es fates
    else entry_after (next_fate fates) e ++ entries_after (next_fate fates) e.path es (fates_behind fates)

-- the same from the first entry on: no path is empty
abbrev pub entries_in_turn : List Entry → List Fate → List Entry
entries_in_turn es fates = entries_after Kept [] es fates
