-- What the paths of an index come to, with what they leave in the counts of the outside.
use Rattle.std.specs.Prelude.{◌≡◌, ◌⊎◌, ◌<◌, ℕ, Bool, true, false, List, [], ◌∷◌, ◌++◌, map, Option, Some, None}
use Rattle.std.specs.Prelude.{if◌then◌else◌}
use Rattle.edge_kit.specs.Faults.{Rose}
use Rattle.edge_kit.specs.Seen.{RepoSeen}
use Rattle.edge_kit.specs.Told.{Told, MayFail}
use Rattle.object_dir.specs.Spelling.{spelled_blob}
use Rattle.eol_convert.specs.declared.action.Action.{Action}
use Rattle.clean_drivers.specs.Drivers.{DriversSeen}
use Rattle.checkin_paths.specs.declared.path.Storing.{Storing}
use Rattle.checkin_paths.specs.declared.path.Way.{Way}
use Rattle.checkin_paths.specs.declared.path.Way.TheVariants as way
use Rattle.checkin_paths.specs.declared.path.CheckinPath.{CheckinPath}
use Rattle.checkin_paths.specs.declared.fate.Fate.{Fate}
use Rattle.checkin_paths.specs.declared.fate.Fate.TheVariants.{Same, Changed, Gone, Kept, Failed}
use Rattle.checkin_paths.specs.declared.fate.CheckinCause.TheVariants.{Read, OtherKind}
use Rattle.checkin_paths.specs.Outside.{WorkSeen, FilesSeen, KeepSeen, AreFailedAt, IsKeepFailed, with_objects}
use Rattle.checkin_paths.specs.Outside.{path_if}
use Rattle.checkin_paths.specs.Fates.{is_auto, IsThere, HasFile, HasFate, driver_of}
use Rattle.checkin_paths.specs.CleanedFiles.{Asked, Cleaning, AsksOne, AsksInVain}

-- What a path comes to: its fate, what its driver was asked if it was, the content of its file if it is stored, whether
-- the files failed at it, and the count of its blob if one was made.
pub record Outcome : Type 0 where
  pub fate : Fate
  pub asked : Option Asked
  pub content : List ℕ
  pub failed : Bool
  pub blob : Option ℕ

-- nothing failed, and there was no blob or one
abbrev pub IsUnfailed : Outcome → Option ℕ → Type 0
IsUnfailed o blob = (o.failed ≡ false) × (o.blob ≡ blob)

-- The files failed at the path, and there was no blob. Or a file is there, the action asks for the index's content, and
-- its blob failed.
abbrev pub IsUnread : Told → Told → Action → Bool → Option ℕ → Type 0
IsUnread object file action failed blob =
    (MayFail file × (failed ≡ true) × (blob ≡ None))
    ⊎ (IsThere file × (is_auto action ≡ true) × MayFail object × (failed ≡ false)
    × ((n : ℕ) × (0 < n) × (blob ≡ Some n)))

-- the files failed at the path by the kind of its file, and there was no blob
abbrev pub IsOfOtherKind : Told → Bool → Option ℕ → Type 0
IsOfOtherKind file failed blob = MayFail file × (failed ≡ true) × (blob ≡ None)

-- the blob of a path whose action looks at the index's content
abbrev pub blob_by : Bool → Option ℕ
blob_by auto = if auto then Some 0 else None

-- the counts of a path whose file is stored
abbrev pub HasStoredCounts : Told → Told → Storing → Outcome → Fate → Type 0
HasStoredCounts object file storing o Same = IsUnfailed o (blob_by (is_auto storing.action))
HasStoredCounts object file storing o (Changed name) = IsUnfailed o (blob_by (is_auto storing.action))
HasStoredCounts object file storing o Gone = IsUnfailed o None
HasStoredCounts object file storing o Kept = ⊥
HasStoredCounts object file storing o (Failed Read) = IsUnread object file storing.action o.failed o.blob
HasStoredCounts object file storing o (Failed OtherKind) = IsOfOtherKind file o.failed o.blob
HasStoredCounts object file storing o (Failed cause) = IsUnfailed o (blob_by (is_auto storing.action))

-- a file is taken and a blob is made only for a path whose file is stored
abbrev pub HasCounts : Told → Told → Way → Outcome → Type 0
HasCounts object file (way.Stored storing) o = HasStoredCounts object file storing o o.fate
HasCounts object file w o = IsUnfailed o None

-- what a path comes to, by what is told
pub record IsOutcome (object files : List ℕ → Told) (p : CheckinPath) (o : Outcome) : Type 0 where
  pub fate : HasFate (object p.object) (files p.path) p.object p.way o.asked o.content o.fate
  pub counts : HasCounts (object p.object) (files p.path) p.way o

abbrev pub AreOutcomes : (List ℕ → Told) → (List ℕ → Told) → List CheckinPath → List Outcome → Type 0
AreOutcomes object files [] [] = Unit {0}
AreOutcomes object files (p ∷ ps) (o ∷ os) = IsOutcome object files p o × AreOutcomes object files ps os
AreOutcomes object files ps os = ⊥

abbrev pub fates_of : List Outcome → List Fate
fates_of os = map (λ o. o.fate) os

-- the blob of a path as it is given back
abbrev pub blob_back : CheckinPath → Option ℕ → List (List ℕ × ℕ)
blob_back p None = []
blob_back p (Some count) = (p.object, count) ∷ []

-- the blobs of the paths, in order
abbrev pub blobs_back : List CheckinPath → List Outcome → List (List ℕ × ℕ)
blobs_back (p ∷ ps) (o ∷ os) = blob_back p o.blob ++ blobs_back ps os
blobs_back ps os = []

-- the path, if the files failed at it
abbrev pub failed_at : CheckinPath → Bool → List (List ℕ)
failed_at p failed = if failed then p.path ∷ [] else []

-- the paths at which the files failed, in order
abbrev pub failed_paths : List CheckinPath → List Outcome → List (List ℕ)
failed_paths (p ∷ ps) (o ∷ os) = failed_at p o.failed ++ failed_paths ps os
failed_paths ps os = []

-- a path failed by the kind of its file
abbrev pub is_of_other_kind : Fate → Bool
is_of_other_kind (Failed OtherKind) = true
is_of_other_kind fate = false

-- the paths that failed so, in order
abbrev pub other_kinds : List CheckinPath → List Outcome → List (List ℕ)
other_kinds (p ∷ ps) (o ∷ os) = path_if (is_of_other_kind o.fate) p.path ++ other_kinds ps os
other_kinds ps os = []

-- the object of a path, if it is another than its entry's: its name and its stored bytes
abbrev pub object_by : Fate → List ℕ → List (List ℕ × List ℕ)
object_by (Changed name) content = (name, spelled_blob content) ∷ []
object_by fate content = []

abbrev pub object_of : Outcome → List (List ℕ × List ℕ)
object_of o = object_by o.fate o.content

-- the objects of the changed paths, in order
abbrev pub objects_of : List Outcome → List (List ℕ × List ℕ)
objects_of [] = []
objects_of (o ∷ os) = object_of o ++ objects_of os

-- a repository with these blobs after those that it was given back
abbrev pub with_blobs : List (List ℕ × ℕ) → RepoSeen → RepoSeen
with_blobs blobs repo = record repo { returned = repo.returned ++ blobs }

-- a repository with the blob of that name after those that it was given back, if one was made
abbrev pub with_blob : List ℕ → Option ℕ → RepoSeen → RepoSeen
with_blob name None repo = repo
with_blob name (Some count) repo = with_blobs ((name, count) ∷ []) repo

-- the files failed at a path, or they are as they were
abbrev pub FailsIf : Bool → List ℕ → FilesSeen → FilesSeen → Type 0
FailsIf true path files files' = AreFailedAt path files files'
FailsIf false path files files' = files' ≡ files

-- the count of faults is as it was, or rose if there is a path at which the files failed
abbrev pub HasCounted : List (List ℕ) → ℕ → ℕ → Type 0
HasCounted [] old new = new ≡ old
HasCounted (path ∷ paths) old new = Rose old new

-- a path was looked at: its blob was given back, the files failed at it if they did, and its driver was asked
pub record IsLookedAt (c : Cleaning) (p : CheckinPath) (o : Outcome) (repo repo' : RepoSeen) (work work' : WorkSeen)
    : Type 0 where
  pub back : repo' ≡ with_blob p.object o.blob repo
  pub fails : FailsIf o.failed p.path work.files work'.files
  pub asks : AsksOne c p.path (driver_of p.way) o.asked work.drivers work'.drivers

-- The paths were looked at one after another. Before the next one is, the blob of a path was given back, and its driver
-- asked.
abbrev pub AreInTurn : Cleaning → List CheckinPath → List Outcome → RepoSeen → RepoSeen → WorkSeen → WorkSeen → Type 0
AreInTurn c (p ∷ ps) (o ∷ os) repo repo' work work' = (mid : RepoSeen) × (mid_work : WorkSeen)
    × IsLookedAt c p o repo mid work mid_work × AreInTurn c ps os mid repo' mid_work work'
AreInTurn c ps os repo repo' work work' = (repo' ≡ repo) × (work' ≡ work)

-- The paths were looked at in turn: their blobs were given back, and the files failed at just these, and by the kind at
-- just those that failed by it.
pub record AreLookedAt (c : Cleaning) (ps : List CheckinPath) (os : List Outcome) (repo repo' : RepoSeen)
    (work work' : WorkSeen) : Type 0 where
  pub blobs : repo' ≡ with_blobs (blobs_back ps os) repo
  pub failed : work'.files.failed ≡ work.files.failed ++ failed_paths ps os
  pub kinds : work'.files.of_other_kind ≡ work.files.of_other_kind ++ other_kinds ps os
  pub counted : HasCounted (failed_paths ps os) work.files.faults work'.files.faults
  pub turns : AreInTurn c ps os repo repo' work work'

-- the paths were looked at, in order, and the objects of the changed ones kept
pub record AreChecked (c : Cleaning) (ps : List CheckinPath) (os : List Outcome) (repo repo' : RepoSeen)
    (work work' : WorkSeen) (keep keep' : KeepSeen) : Type 0 where
  pub looked : AreLookedAt c ps os repo repo' work work'
  pub objects : keep' ≡ with_objects (objects_of os) keep

-- all paths were looked at and came to these fates, and the objects of the changed ones were kept
pub record ArePathsChecked (object told : List ℕ → Told) (c : Cleaning) (ps : List CheckinPath) (repo repo' : RepoSeen)
    (work work' : WorkSeen) (keep keep' : KeepSeen) (fates : List Fate) : Type 0 where
  pub outcomes : List Outcome
  pub same : fates_of outcomes ≡ fates
  pub each : AreOutcomes object told ps outcomes
  pub checked : AreChecked c ps outcomes repo repo' work work' keep keep'

-- The keeper failed at the object of a changed path. The objects of the paths before it were kept, and nothing else.
pub record AreObjectsCut (object told : List ℕ → Told) (c : Cleaning) (ps : List CheckinPath) (repo repo' : RepoSeen)
    (work work' : WorkSeen) (keep keep' : KeepSeen) : Type 0 where
  pub front : List CheckinPath
  pub path : CheckinPath
  pub after : List CheckinPath
  pub parts : ps ≡ front ++ path ∷ after
  pub outcomes : List Outcome
  pub outcome : Outcome
  pub each : AreOutcomes object told (front ++ path ∷ []) (outcomes ++ outcome ∷ [])
  pub name : List ℕ
  pub changed : outcome.fate ≡ Changed name
  pub looked : AreLookedAt c (front ++ path ∷ []) (outcomes ++ outcome ∷ []) repo repo' work work'
  pub failed : IsKeepFailed (with_objects (objects_of outcomes) keep) keep'

-- the action of a path whose file is stored looks at the index's content
abbrev pub looks_at_old : Way → Bool
looks_at_old (way.Stored storing) = is_auto storing.action
looks_at_old way.Kept = false
looks_at_old way.UnknownEncoding = false
looks_at_old way.NoProcess = false

-- a blob of that name was made and given back, where the index's content is looked at; or none was made
abbrev pub MakesBlob : Bool → List ℕ → RepoSeen → RepoSeen → Type 0
MakesBlob auto name repo repo' =
    (repo' ≡ repo) ⊎ ((auto ≡ true) × (repo' ≡ with_blobs ((name, 0) ∷ []) repo))

-- The driver of a path was asked to clean the bytes of its file, and then memory ran out. Before that its blob was made
-- and given back, if its action asks for it.
pub record IsAskedInVain (object told : List ℕ → Told) (c : Cleaning) (p : CheckinPath) (repo repo' : RepoSeen)
    (old new : DriversSeen) : Type 0 where
  pub storing : Storing
  pub stores : p.way ≡ way.Stored storing
  pub has : HasFile (object p.object) (told p.path) p.object storing.action
  pub back : repo' ≡ with_blob p.object (blob_by (is_auto storing.action)) repo
  pub asks : AsksInVain c p.path storing.driver has.bytes old new

-- Memory ran out at a path: its driver was asked in vain, or none was asked, and its blob may have been made.
abbrev pub IsLeftAt : (List ℕ → Told) → (List ℕ → Told) → Cleaning → CheckinPath → RepoSeen → RepoSeen → DriversSeen
    → DriversSeen → Type 0
IsLeftAt object told c p repo repo' old new = ((new ≡ old) × MakesBlob (looks_at_old p.way) p.object repo repo')
    ⊎ IsAskedInVain object told c p repo repo' old new

-- the same for the first of these paths, if there is one
abbrev pub IsLeftNext : (List ℕ → Told) → (List ℕ → Told) → Cleaning → List CheckinPath → RepoSeen → RepoSeen
    → DriversSeen → DriversSeen → Type 0
IsLeftNext object told c [] repo repo' old new = (new ≡ old) × (repo' ≡ repo)
IsLeftNext object told c (p ∷ ps) repo repo' old new = IsLeftAt object told c p repo repo' old new

-- Memory ran out before the index was kept. The first paths were looked at and their objects kept, and nothing else.
-- The next one was left.
pub record AreBrokenOff (object told : List ℕ → Told) (c : Cleaning) (ps : List CheckinPath) (repo repo' : RepoSeen)
    (work work' : WorkSeen) (keep keep' : KeepSeen) : Type 0 where
  pub front : List CheckinPath
  pub after : List CheckinPath
  pub parts : ps ≡ front ++ after
  pub outcomes : List Outcome
  pub each : AreOutcomes object told front outcomes
  pub mid : RepoSeen
  pub mid_work : WorkSeen
  pub checked : AreChecked c front outcomes repo mid work mid_work keep keep'
  pub next : IsLeftNext object told c after mid repo' mid_work.drivers work'.drivers
  pub files_same : work'.files ≡ mid_work.files
