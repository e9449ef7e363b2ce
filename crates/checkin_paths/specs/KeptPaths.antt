-- What the look at the paths and the keeping of objects promise.
use Rattle.std.specs.Prelude.{◌≡◌, ℕ, List, length, replicate, None, Result, Ok, Err}
use Rattle.std.specs.Global.{Vec}
use Rattle.edge_kit.specs.Seen.{RepoSeen}
use Rattle.edge_kit.specs.Starters.{SpawnerSeen}
use Rattle.edge_kit.specs.Told.{Told}
use Rattle.edge_kit.specs.declared.faults.SendFault.{SendFault}
use Rattle.edge_kit.specs.declared.faults.SendFault.TheVariants as send
use Rattle.settings_view.specs.declared.view.Driver.{Driver}
use Rattle.clean_drivers.specs.Drivers.{drivers_seen, GivesBack}
use Rattle.checkin_paths.specs.declared.path.CheckinPath.{CheckinPath}
use Rattle.checkin_paths.specs.declared.fate.Fate.{Fate}
use Rattle.checkin_paths.specs.declared.fate.Fate.TheVariants.{Changed}
use Rattle.checkin_paths.specs.Outside.{FilesSeen, WorkSeen, work_seen, KeepSeen, IsKeepFailed, with_objects}
use Rattle.checkin_paths.specs.Outcomes.{Outcome, object_of, object_by, ArePathsChecked, IsLeftAt, AreObjectsCut}
use Rattle.checkin_paths.specs.Outcomes.{AreBrokenOff}
use Rattle.checkin_paths.specs.CleanedFiles.{Cleaning}
use Rattle.checkin_paths.specs.Looks.{IsPathLookedAt}

-- the object of a path is kept if it has changed, and nothing is done if it hasn't
abbrev pub KeepsStored : {T : Type 0} → Fate → List ℕ → KeepSeen → KeepSeen → Result T SendFault → Type 0
KeepsStored fate content keep keep' (Ok x) = keep' ≡ with_objects (object_by fate content) keep
KeepsStored fate content keep keep' (Err send.Failed) =
    ((name : List ℕ) × (fate ≡ Changed name)) × IsKeepFailed keep keep'
KeepsStored fate content keep keep' (Err send.NoMemory) =
    ((name : List ℕ) × (fate ≡ Changed name)) × (keep' ≡ keep)

-- a path was looked at, and its object kept if it is another than its entry's
pub record IsPathChecked (object told : List ℕ → Told) (c : Cleaning) (p : CheckinPath) (repo repo' : RepoSeen)
    (work work' : WorkSeen) (keep keep' : KeepSeen) (fate : Fate) : Type 0 where
  pub outcome : Outcome
  pub same : outcome.fate ≡ fate
  pub looked : IsPathLookedAt object told c p repo repo' work work' outcome
  pub object_kept : keep' ≡ with_objects (object_of outcome) keep

-- the keeper failed at its object
pub record IsPathCut (object told : List ℕ → Told) (c : Cleaning) (p : CheckinPath) (repo repo' : RepoSeen)
    (work work' : WorkSeen) (keep keep' : KeepSeen) : Type 0 where
  pub outcome : Outcome
  pub name : List ℕ
  pub changed : outcome.fate ≡ Changed name
  pub looked : IsPathLookedAt object told c p repo repo' work work' outcome
  pub failed : IsKeepFailed keep keep'

-- memory ran out at the path
pub record IsPathLeft (object told : List ℕ → Told) (c : Cleaning) (p : CheckinPath) (repo repo' : RepoSeen)
    (work work' : WorkSeen) (keep keep' : KeepSeen) : Type 0 where
  pub left : IsLeftAt object told c p repo repo' work.drivers work'.drivers
  pub files_same : work'.files ≡ work.files
  pub keep_same : keep' ≡ keep

-- how the look at a path ends
abbrev pub ChecksPath : (List ℕ → Told) → (List ℕ → Told) → Cleaning → CheckinPath → RepoSeen → RepoSeen → WorkSeen
    → WorkSeen → KeepSeen → KeepSeen → Result Fate SendFault → Type 0
ChecksPath object told c p repo repo' work work' keep keep' (Ok fate) =
    IsPathChecked object told c p repo repo' work work' keep keep' fate
ChecksPath object told c p repo repo' work work' keep keep' (Err send.Failed) =
    IsPathCut object told c p repo repo' work work' keep keep'
ChecksPath object told c p repo repo' work work' keep keep' (Err send.NoMemory) =
    IsPathLeft object told c p repo repo' work work' keep keep'

-- how the look at all paths ends
abbrev pub ChecksPaths : (List ℕ → Told) → (List ℕ → Told) → Cleaning → List CheckinPath → RepoSeen → RepoSeen
    → WorkSeen → WorkSeen → KeepSeen → KeepSeen → Result (Vec Fate) SendFault → Type 0
ChecksPaths object told c ps repo repo' work work' keep keep' (Ok fates) =
    ArePathsChecked object told c ps repo repo' work work' keep keep' fates.items
ChecksPaths object told c ps repo repo' work work' keep keep' (Err send.Failed) =
    AreObjectsCut object told c ps repo repo' work work' keep keep'
ChecksPaths object told c ps repo repo' work work' keep keep' (Err send.NoMemory) =
    AreBrokenOff object told c ps repo repo' work work' keep keep'

-- what the drivers leave: their lines were closed, and their starters given back, in order
pub record IsLeft (last : WorkSeen) (files : FilesSeen) (spawner : SpawnerSeen) (runs : ℕ) : Type 0 where
  pub files_same : files ≡ last.files
  pub back : GivesBack last.drivers.lines last.drivers.spawner spawner
  pub faults : runs ≡ last.drivers.faults

-- before the first path: no driver has a line
abbrev pub first_work : List Driver → FilesSeen → SpawnerSeen → ℕ → WorkSeen
first_work drivers files spawner runs =
    work_seen files (drivers_seen (replicate (length drivers) None) spawner runs)

-- the same as the look at all paths, with the starters given back at its end
pub record ChecksAndLeaves (object told : List ℕ → Told) (c : Cleaning) (ps : List CheckinPath)
    (repo repo' : RepoSeen) (files files' : FilesSeen) (spawner spawner' : SpawnerSeen) (runs runs' : ℕ)
    (keep keep' : KeepSeen) (r : Result (Vec Fate) SendFault) : Type 0 where
  pub last : WorkSeen
  pub checks : ChecksPaths object told c ps repo repo' (first_work c.drivers files spawner runs) last keep keep' r
  pub left : IsLeft last files' spawner' runs'
