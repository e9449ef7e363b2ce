-- What the keeping of the index promises.
use Rattle.std.specs.Prelude.{◌≡◌, ◌⊎◌, List, length, Result, Ok, Err}
use Rattle.std.specs.List.{AllByRecursion}
use Rattle.std.specs.Global.{Vec}
use Rattle.edge_kit.specs.declared.faults.SendFault.{SendFault}
use Rattle.edge_kit.specs.declared.faults.SendFault.TheVariants as send
use Rattle.git_index.specs.declared.entry.Entry.{Entry}
use Rattle.git_index.specs.Spelling.{plain_text}
use Rattle.checkin_paths.specs.declared.fate.Fate.{Fate}
use Rattle.checkin_paths.specs.declared.fate.Fate.TheVariants.{Same, Changed, Gone, Kept, Failed}
use Rattle.checkin_paths.specs.Outside.{KeepSeen, IsKeepFailed, with_index}
use Rattle.checkin_engine.specs.InTurn.{entries_in_turn}

-- The paths were looked at, and the index is kept after that. `leaves` is what a look with this end leaves of the
-- keeper.
abbrev pub KeepsAfter : (KeepSeen → Result (Vec Fate) SendFault → Type 0) → List Entry → KeepSeen
    → Result (Vec Fate) SendFault → Type 0
KeepsAfter leaves es keep' (Ok fates) = (mid : KeepSeen) × leaves mid (Ok fates)
    × (keep' ≡ with_index (plain_text (entries_in_turn es fates.items)) mid)
KeepsAfter leaves es keep' (Err send.Failed) = leaves keep' (Err send.Failed)
    ⊎ ((mid : KeepSeen) × (fates : Vec Fate) × leaves mid (Ok fates) × IsKeepFailed mid keep')
KeepsAfter leaves es keep' (Err send.NoMemory) = leaves keep' (Err send.NoMemory)

-- each changed path has a name of 20 bytes
abbrev pub HasName : Fate → Type 0
HasName (Changed name) = length name ≡ 20
HasName Same = Unit {0}
HasName Gone = Unit {0}
HasName Kept = Unit {0}
HasName (Failed cause) = Unit {0}

abbrev pub HaveNames : List Fate → Type 0
HaveNames fates = AllByRecursion HasName fates
