-- How a check-in ends, and what holds at each end.
use Rattle.std.specs.Prelude.{◌≡◌, ◌⊎◌, ℕ, List, [], ◌∷◌, ◌++◌, if◌then◌else◌}
use Rattle.std.specs.List.{list_any}
use Rattle.edge_kit.specs.Files.{grown}
use Rattle.edge_kit.specs.Seen.{RepoSeen, SinkSeen, IsWriteCut}
use Rattle.edge_kit.specs.Starters.{Starts, SpawnerSeen}
use Rattle.edge_kit.specs.Told.{Told, RepoTold}
use Rattle.one_shot.specs.Onces.{RunsTold}
use Rattle.settings_view.specs.declared.view.Driver.{Driver}
use Rattle.git_index.specs.declared.entry.Entry.{Entry}
use Rattle.git_index.specs.Spelling.{plain_text}
use Rattle.checkout_sources.specs.declared.stop.Refusal.{Refusal}
use Rattle.checkout_sources.specs.Causes.{IsReadCause, IsRefusedFor, IsCutShort}
use Rattle.checkout_sources.specs.RefusalText.{refusal_line}
use Rattle.checkin_paths.specs.declared.path.CheckinPath.{CheckinPath}
use Rattle.checkin_paths.specs.declared.fate.Fate.{Fate}
use Rattle.exit_status.specs.declared.status.ExitStatus.{ExitStatus}
use Rattle.exit_status.specs.declared.status.ExitStatus.TheVariants as status
use Rattle.checkin_paths.specs.Outside.{FilesSeen, WorkSeen, KeepSeen, IsKeepFailed, with_index}
use Rattle.checkin_paths.specs.Paths.{HasPaths}
use Rattle.checkin_paths.specs.ReadPaths.{after_reading}
use Rattle.checkin_paths.specs.CleanedFiles.{Cleaning, cleaning}
use Rattle.checkin_paths.specs.KeptPaths.{IsLeft, first_work}
use Rattle.checkin_engine.specs.Indexes.{new_entries}
use Rattle.checkin_paths.specs.Outcomes.{ArePathsChecked, AreObjectsCut, AreBrokenOff}
use Rattle.checkin_engine.specs.Report.{report_of, is_failed}
use Rattle.checkin_engine.specs.Talks.{HaveTalks}

-- all that a check-in can change
pub record Seen : Type 0 where
  pub repo : RepoSeen
  pub files : FilesSeen
  pub spawner : SpawnerSeen
  pub runs : ℕ
  pub keep : KeepSeen
  pub sink : SinkSeen

abbrev pub seen : RepoSeen → FilesSeen → SpawnerSeen → ℕ → KeepSeen → SinkSeen → Seen
seen repo files spawner runs keep sink =
    record { repo = repo; files = files; spawner = spawner; runs = runs; keep = keep; sink = sink }

-- what is told of the repository, of the files, of the starts of the drivers and of single runs
pub record AllTold : Type 0 where
  pub repo : RepoTold
  pub files : List ℕ → Told
  pub starts : List ℕ → Starts
  pub runs : RunsTold

abbrev pub all_told : RepoTold → (List ℕ → Told) → (List ℕ → Starts) → RunsTold → AllTold
all_told repo files starts runs = record { repo = repo; files = files; starts = starts; runs = runs }

abbrev pub cleaning_told : AllTold → List Driver → Cleaning
cleaning_told told drivers = cleaning drivers told.starts told.runs

-- before the first path
abbrev pub work_before : List Driver → Seen → WorkSeen
work_before drivers old = first_work drivers old.files old.spawner old.runs

-- the starters of the drivers were given back
abbrev pub IsLeftBy : WorkSeen → Seen → Type 0
IsLeftBy last new = IsLeft last new.files new.spawner new.runs

-- the sink with this text after what was written before
abbrev pub with_text : List ℕ → SinkSeen → SinkSeen
with_text text sink = record sink { written = grown sink.written text }

-- 1 if some path failed, and 0 if none did
abbrev pub status_of : List Fate → ExitStatus
status_of fates = if list_any is_failed fates then status.DoneWithFailures else status.Done

-- The paths of the index came to these fates, and the objects of the changed ones were kept. The blobs of the attribute
-- files and then those of the paths were given back, and then the starters of the drivers that were asked, each with
-- one talk over its paths. The index isn't kept yet, and nothing is written.
pub record IsLookedThrough (told : AllTold) (old new : Seen) : Type 0 where
  pub entries : List Entry
  pub paths : List CheckinPath
  pub drivers : List Driver
  pub has : HasPaths told.repo drivers entries paths
  pub fates : List Fate
  pub last : WorkSeen
  pub checked : ArePathsChecked told.repo.object told.files (cleaning_told told drivers) paths
      (after_reading entries old.repo) new.repo (work_before drivers old) last old.keep new.keep fates
  pub left : IsLeftBy last new
  pub talks : HaveTalks drivers paths checked.outcomes old.spawner new.spawner
  pub silent : new.sink ≡ old.sink

-- All was looked through, with all blobs and starters given back, and after that the index was kept. Nothing but that
-- and what is written is another then.
pub record IsCheckedIn (told : AllTold) (old new : Seen) : Type 0 where
  pub mid : Seen
  pub done : IsLookedThrough told old mid
  pub index : new ≡ record mid {
    keep = with_index (plain_text (new_entries done.paths done.fates done.entries)) mid.keep;
    sink = new.sink;
  }

-- 0, or 1 if some path failed: the report was written after that
pub record IsDone (told : AllTold) (old new : Seen) (s : ExitStatus) : Type 0 where
  pub checked : IsCheckedIn told old new
  pub report : new.sink ≡ with_text (report_of checked.done.paths checked.done.fates) old.sink
  pub status : s ≡ status_of checked.done.fates

-- neither were the files looked at, nor a driver asked, nor anything kept
pub record IsUntouched (old new : Seen) : Type 0 where
  pub files : new.files ≡ old.files
  pub spawner : new.spawner ≡ old.spawner
  pub runs : new.runs ≡ old.runs
  pub keep : new.keep ≡ old.keep

-- the repository is refused with this line before a file is looked at
abbrev pub IsRefusedWith : RepoTold → List ℕ → RepoSeen → RepoSeen → Type 0
IsRefusedWith told line old new =
    (refusal : Refusal) × IsRefusedFor told refusal old new × (line ≡ refusal_line refusal)

pub record HasRefusal (told : RepoTold) (line : List ℕ) (old new : Seen) : Type 0 where
  pub refused : IsRefusedWith told line old.repo new.repo
  pub untouched : IsUntouched old new

-- 3: the repository is refused, and the line says why
pub record IsRefused (told : RepoTold) (old new : Seen) : Type 0 where
  pub line : List ℕ
  pub has : HasRefusal told line old new
  pub written : new.sink ≡ with_text line old.sink

-- the sink failed in the line of a refusal
pub record IsLineCut (told : RepoTold) (old new : Seen) : Type 0 where
  pub line : List ℕ
  pub has : HasRefusal told line old new
  pub cut : IsWriteCut line old.sink new.sink

-- the keeper failed at an object, and then the starters were given back, each with its talk up to that
pub record IsObjectCut (told : AllTold) (old new : Seen) : Type 0 where
  pub entries : List Entry
  pub paths : List CheckinPath
  pub drivers : List Driver
  pub has : HasPaths told.repo drivers entries paths
  pub last : WorkSeen
  pub cut : AreObjectsCut told.repo.object told.files (cleaning_told told drivers) paths
      (after_reading entries old.repo) new.repo (work_before drivers old) last old.keep new.keep
  pub left : IsLeftBy last new
  pub talks : HaveTalks drivers (cut.front ++ cut.path ∷ []) (cut.outcomes ++ cut.outcome ∷ []) old.spawner new.spawner
  pub silent : new.sink ≡ old.sink

-- the keeper failed at the index, once all was looked through
pub record IsIndexCut (told : AllTold) (old new : Seen) : Type 0 where
  pub mid : Seen
  pub done : IsLookedThrough told old mid
  pub failed : IsKeepFailed mid.keep new.keep
  pub same : new ≡ record mid { keep = new.keep }

-- the sink failed in the report, once the objects and the index were kept
pub record IsReportCut (told : AllTold) (old new : Seen) : Type 0 where
  pub checked : IsCheckedIn told old new
  pub cut : IsWriteCut (report_of checked.done.paths checked.done.fates) old.sink new.sink

-- 4: the keeper or the sink failed, at one of these
abbrev pub IsCutOff : AllTold → Seen → Seen → Type 0
IsCutOff told old new =
    IsLineCut told.repo old new ⊎ IsObjectCut told old new ⊎ IsIndexCut told old new ⊎ IsReportCut told old new

-- Memory ran out before a file was looked at. Blobs of the first attribute files may have been made and given back.
pub record IsStopped (told : RepoTold) (old new : Seen) : Type 0 where
  pub repo : IsCutShort told old.repo new.repo ⊎ ((line : List ℕ) × IsRefusedWith told line old.repo new.repo)
  pub untouched : IsUntouched old new
  pub silent : new.sink ≡ old.sink

-- memory ran out before the index was kept, once the objects of the first paths were kept
pub record IsBrokenOff (told : AllTold) (old new : Seen) : Type 0 where
  pub entries : List Entry
  pub paths : List CheckinPath
  pub drivers : List Driver
  pub has : HasPaths told.repo drivers entries paths
  pub last : WorkSeen
  pub broken : AreBrokenOff told.repo.object told.files (cleaning_told told drivers) paths
      (after_reading entries old.repo) new.repo (work_before drivers old) last old.keep new.keep
  pub left : IsLeftBy last new
  pub silent : new.sink ≡ old.sink

-- memory ran out once the objects and the index were kept, and nothing is reported
pub record IsUnreported (told : AllTold) (old new : Seen) : Type 0 where
  pub checked : IsCheckedIn told old new
  pub silent : new.sink ≡ old.sink

-- 5: memory ran out, at one of these
abbrev pub IsOutOfMemory : AllTold → Seen → Seen → Type 0
IsOutOfMemory told old new =
    IsStopped told.repo old new ⊎ IsBrokenOff told old new ⊎ IsUnreported told old new

-- 6: a read of the repository failed before a file was looked at, and nothing else
pub record IsReadFault (told : RepoTold) (old new : Seen) : Type 0 where
  pub cause : IsReadCause told old.repo new.repo
  pub untouched : IsUntouched old new
  pub silent : new.sink ≡ old.sink

-- what holds at each end
abbrev pub EndsCheckin : AllTold → Seen → Seen → ExitStatus → Type 0
EndsCheckin told old new status.Done = IsDone told old new status.Done
EndsCheckin told old new status.DoneWithFailures = IsDone told old new status.DoneWithFailures
EndsCheckin told old new status.Usage = ⊥
EndsCheckin told old new status.Refused = IsRefused told.repo old new
EndsCheckin told old new status.OutputNotWritten = IsCutOff told old new
EndsCheckin told old new status.OutOfMemory = IsOutOfMemory told old new
EndsCheckin told old new status.ReadFault = IsReadFault told.repo old new
EndsCheckin told old new status.NotEmpty = ⊥
