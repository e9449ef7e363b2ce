-- What the parts of a look at a path promise each other.
use Rattle.std.specs.Prelude.{◌≡◌, ◌⊎◌, ◌<◌, ◌≤◌, ℕ, Bool, true, false, List, [], ◌∷◌, length, Option}
use Rattle.std.specs.Prelude.{Some, None}
use Rattle.std.specs.Prelude.{Result, Ok, Err, OnOk, if◌then◌else◌}
use Rattle.std.specs.Global.{Vec}
use Rattle.std.specs.Str.{bytes_eq, IsUtf8}
use Rattle.edge_kit.specs.Seen.{RepoSeen}
use Rattle.edge_kit.specs.Told.{Told, MayFail, TellsBytes, TellsNone, TellsLong}
use Rattle.edge_kit.specs.declared.faults.TakeFault.{TakeFault}
use Rattle.edge_kit.specs.declared.faults.TakeFault.TheVariants as take
use Rattle.object_dir.specs.declared.fault.ObjectFault.{ObjectFault}
use Rattle.object_dir.specs.declared.fault.ObjectFault.TheVariants as object
use Rattle.back_convert.specs.Ends.{has_crlf}
use Rattle.back_convert.specs.Laws.{back_encoded_if, stored}
use Rattle.eol_convert.specs.declared.action.Action.{Action}
use Rattle.clean_drivers.specs.declared.cause.CleanCause.{CleanCause}
use Rattle.clean_drivers.specs.declared.cause.CleanFault.{CleanFault}
use Rattle.clean_drivers.specs.declared.cause.CleanFault.TheVariants as clean
use Rattle.clean_drivers.specs.Drivers.{DriversSeen}
use Rattle.checkin_paths.specs.declared.path.PathDriver.{PathDriver}
use Rattle.checkin_paths.specs.declared.found_file.Found.{Found}
use Rattle.checkin_paths.specs.declared.found_file.Found.TheVariants as find
use Rattle.checkin_paths.specs.CleanedFiles.{Asked, Cleaning, IsCleaned, AsksOne, AsksInVain}
use Rattle.checkin_paths.specs.declared.path.Storing.{Storing}
use Rattle.checkin_paths.specs.declared.path.Way.{Way}
use Rattle.checkin_paths.specs.declared.path.Way.TheVariants as way
use Rattle.checkin_paths.specs.declared.path.CheckinPath.{CheckinPath}
use Rattle.checkin_paths.specs.declared.fate.Fate.{Fate}
use Rattle.checkin_paths.specs.declared.fate.Fate.TheVariants.{Same, Changed, Gone, Failed}
use Rattle.checkin_paths.specs.declared.fate.CheckinCause.TheVariants.{Read, TooLarge, Filter}
use Rattle.checkin_paths.specs.declared.fate.CheckinCause.TheVariants.{EncodingForm, OtherKind}
use Rattle.checkin_paths.specs.Outside.{FilesSeen, WorkSeen}
use Rattle.checkin_paths.specs.Fates.{max_file, is_auto, HasOldBy, HasOld, name_of}
use Rattle.checkin_paths.specs.Outcomes.{Outcome, IsOutcome, IsUnread, IsOfOtherKind, is_of_other_kind}
use Rattle.checkin_paths.specs.Outcomes.{blob_by, with_blob, with_blobs, FailsIf, IsLookedAt}

-- the fate of a file with this content, by the name in the index
abbrev pub fate_by : List ℕ → List ℕ → Fate
fate_by name content = if bytes_eq (name_of content) name then Same else Changed (name_of content)

-- what an object says that gave no content: there is no answer if reading it failed, and memory may run out
abbrev pub AnswersWithout : {E : Type 0} → ObjectFault → Result (Option Bool) E → Type 0
AnswersWithout object.ReadFailed answer = answer ≡ Ok None
AnswersWithout object.NoMemory answer = OnOk answer ⊥
AnswersWithout fault answer = answer ≡ Ok (Some false)

-- whether a content has a CR directly before an LF
abbrev pub AnswersCrlf : {E : Type 0} → Result (Vec ℕ) ObjectFault → Result (Option Bool) E → Type 0
AnswersCrlf (Ok content) answer = answer ≡ Ok (Some (has_crlf content.items))
AnswersCrlf (Err fault) answer = AnswersWithout fault answer

-- the blob of that name failed, and was given back
abbrev pub FailsBlob : Told → List ℕ → RepoSeen → RepoSeen → Type 0
FailsBlob object name repo repo' =
    MayFail object × ((n : ℕ) × (0 < n) × (repo' ≡ with_blobs ((name, n) ∷ []) repo))

-- what a look at the index's content of a path finds, if the action asks for it: nothing if its blob failed
abbrev pub LooksOld : Bool → Told → List ℕ → RepoSeen → RepoSeen → Option Bool → Type 0
LooksOld auto object name repo repo' (Some old) =
    HasOldBy auto object name old × (repo' ≡ with_blob name (blob_by auto) repo)
LooksOld auto object name repo repo' None = (auto ≡ true) × FailsBlob object name repo repo'

-- a file with these bytes is stored as this content, which gives its fate, or it isn't in its encoding
abbrev pub IsStoredSo : List ℕ → Storing → Bool → List ℕ → List ℕ → Fate → Type 0
IsStoredSo name storing old bytes content (Failed EncodingForm) =
    back_encoded_if storing.encoding bytes ≡ None
IsStoredSo name storing old bytes content fate =
    (stored storing.ident storing.action storing.encoding old bytes ≡ Some content)
    × (fate ≡ fate_by name content)

-- the same of what the bytes of a file were cleaned to, if the driver didn't refuse them
abbrev pub IsCleanedSo : List ℕ → Storing → Bool → Result (List ℕ) CleanCause → List ℕ → Fate → Type 0
IsCleanedSo name storing old (Ok bytes) content fate = IsStoredSo name storing old bytes content fate
IsCleanedSo name storing old (Err why) content fate = fate ≡ Failed (Filter why)

-- the same of how the cleaning ended
abbrev pub IsCleanedFate : List ℕ → Storing → Bool → Result (Vec ℕ) CleanFault → List ℕ → Fate → Type 0
IsCleanedFate name storing old (Ok bytes) content fate = IsStoredSo name storing old bytes.items content fate
IsCleanedFate name storing old (Err (clean.Refused why)) content fate = fate ≡ Failed (Filter why)
IsCleanedFate name storing old (Err clean.NoMemory) content fate = ⊥

-- what was found of a file that is there, which is too large if it gave no bytes
abbrev pub IsTakenSo : Bool → Option (Vec ℕ) → Found → Type 0
IsTakenSo old None found = found ≡ find.TooLarge
IsTakenSo old (Some bytes) found = found ≡ find.There bytes old

-- the same by what the index's content says: nothing if its blob failed
abbrev pub IsFoundBy : Option Bool → Option (Vec ℕ) → Found → Type 0
IsFoundBy None bytes found = found ≡ find.Unread
IsFoundBy (Some old) bytes found = IsTakenSo old bytes found

-- a file is there: the index's content is looked at, if the action asks for it
abbrev pub FindsThere : Told → List ℕ → Action → Option (Vec ℕ) → RepoSeen → RepoSeen → Found → Type 0
FindsThere object name action bytes repo repo' found =
    (old : Option Bool) × LooksOld (is_auto action) object name repo repo' old × IsFoundBy old bytes found

-- what was found of a file that couldn't be taken
abbrev pub found_failed : Bool → Found
found_failed by_kind = if by_kind then find.OtherKind else find.Unread

-- the same for each answer of taking the file, and by whether it failed by the file's kind
abbrev pub FindsTaken : Told → List ℕ → Action → Result (Option (Vec ℕ)) TakeFault → Bool → RepoSeen → RepoSeen → Found
    → Type 0
FindsTaken object name action (Ok (Some bytes)) kind repo repo' found =
    FindsThere object name action (Some bytes) repo repo' found
FindsTaken object name action (Ok None) kind repo repo' found = (found ≡ find.Gone) × (repo' ≡ repo)
FindsTaken object name action (Err take.TooLong) kind repo repo' found =
    FindsThere object name action None repo repo' found
FindsTaken object name action (Err take.Failed) kind repo repo' found =
    (found ≡ found_failed kind) × (repo' ≡ repo)
FindsTaken object name action (Err take.NoMemory) kind repo repo' found = ⊥

-- What was found of a file, by what is told, with whether the files failed at it and the count of the blob, if one was
-- made.
abbrev pub IsFound : Told → Told → List ℕ → Action → Found → Bool → Option ℕ → Type 0
IsFound object file name action find.Gone failed blob = TellsNone file × (failed ≡ false) × (blob ≡ None)
IsFound object file name action find.Unread failed blob = IsUnread object file action failed blob
IsFound object file name action find.OtherKind failed blob = IsOfOtherKind file failed blob
IsFound object file name action find.TooLarge failed blob =
    TellsLong file max_file × ((old : Bool) × HasOld action object name old)
    × (failed ≡ false) × (blob ≡ blob_by (is_auto action))
IsFound object file name action (find.There bytes old) failed blob =
    TellsBytes file bytes.items × (length bytes.items ≤ max_file) × HasOld action object name old
    × (failed ≡ false) × (blob ≡ blob_by (is_auto action))

-- taking didn't fail, though memory may have run out
abbrev pub IsUnfailedTake : Result (Option (Vec ℕ)) TakeFault → Type 0
IsUnfailedTake (Ok taken) = Unit {0}
IsUnfailedTake (Err take.TooLong) = Unit {0}
IsUnfailedTake (Err take.Failed) = ⊥
IsUnfailedTake (Err take.NoMemory) = Unit {0}

-- a file of another kind was found
abbrev pub is_other_found : Found → Bool
is_other_found find.OtherKind = true
is_other_found find.Gone = false
is_other_found find.Unread = false
is_other_found find.TooLarge = false
is_other_found (find.There bytes old) = false

-- where the files failed, they say whether that was by the kind
abbrev pub SaysKind : Bool → Bool → FilesSeen → Type 0
SaysKind failed by_kind files' = failed ≡ true → files'.by_kind ≡ by_kind

-- the file of a path was looked for, and this was found
pub record Finds (object told : List ℕ → Told) (p : CheckinPath) (action : Action) (repo repo' : RepoSeen)
    (files files' : FilesSeen) (found : Found) : Type 0 where
  pub failed : Bool
  pub blob : Option ℕ
  pub is : IsFound (object p.object) (told p.path) p.object action found failed blob
  pub back : repo' ≡ with_blob p.object blob repo
  pub fails : FailsIf failed p.path files files'
  pub says : SaysKind failed (is_other_found found) files'

-- what becomes of a file that was found so, and for which its driver was asked so
abbrev pub ComesTo : List ℕ → Storing → Found → Option Asked → List ℕ → Fate → Type 0
ComesTo name storing find.Gone asked content fate = (fate ≡ Gone) × (asked ≡ None)
ComesTo name storing find.Unread asked content fate = (fate ≡ Failed Read) × (asked ≡ None)
ComesTo name storing find.OtherKind asked content fate = (fate ≡ Failed OtherKind) × (asked ≡ None)
ComesTo name storing find.TooLarge asked content fate = (fate ≡ Failed TooLarge) × (asked ≡ None)
ComesTo name storing (find.There bytes old) asked content fate = (cleaned : Result (List ℕ) CleanCause)
    × IsCleaned storing.driver asked bytes.items cleaned × IsCleanedSo name storing old cleaned content fate

-- the same, with what the driver did
abbrev pub Becomes : Cleaning → CheckinPath → Storing → Found → DriversSeen → DriversSeen → List ℕ → Fate → Type 0
Becomes c p storing found old new content fate = (asked : Option Asked)
    × ComesTo p.object storing found asked content fate × AsksOne c p.path storing.driver asked old new

-- Memory ran out after a file was found so, which is there. Its driver was asked for its bytes, or nothing was asked.
abbrev pub BecomesNothing : Cleaning → CheckinPath → Storing → Found → DriversSeen → DriversSeen → Type 0
BecomesNothing c p storing (find.There bytes old) before after =
    (after ≡ before) ⊎ AsksInVain c p.path storing.driver bytes.items before after
BecomesNothing c p storing found before after = ⊥

-- what a driver that was asked for a file's bytes gives, if there was memory
abbrev pub AnswersFor : Bool → List ℕ → Result (List ℕ) CleanFault → Result (Vec ℕ) CleanFault → Type 0
AnswersFor required bytes answer (Err clean.NoMemory) = Unit {0}
AnswersFor required bytes (Ok cleaned) (Ok given) = given.items ≡ cleaned
AnswersFor false bytes (Err (clean.Refused why)) (Ok given) = given.items ≡ bytes
AnswersFor true bytes (Err (clean.Refused why)) (Err (clean.Refused other)) = other ≡ why
AnswersFor required bytes answer given = ⊥

-- a file's bytes were cleaned to this, or refused
pub record IsCleanedNow (c : Cleaning) (path : List ℕ) (driver : Option PathDriver) (bytes : List ℕ)
    (old new : DriversSeen) (cleaned : Result (List ℕ) CleanCause) : Type 0 where
  pub asked : Option Asked
  pub is : IsCleaned driver asked bytes cleaned
  pub asks : AsksOne c path driver asked old new

abbrev pub CleansFile : Cleaning → List ℕ → Option PathDriver → List ℕ → DriversSeen → DriversSeen
    → Result (Vec ℕ) CleanFault → Type 0
CleansFile c path driver bytes old new (Ok given) = IsCleanedNow c path driver bytes old new (Ok given.items)
CleansFile c path driver bytes old new (Err (clean.Refused why)) = IsCleanedNow c path driver bytes old new (Err why)
CleansFile c path driver bytes old new (Err clean.NoMemory) = AsksInVain c path driver bytes old new

-- a path was looked at, and came to this outcome
pub record IsPathLookedAt (object told : List ℕ → Told) (c : Cleaning) (p : CheckinPath) (repo repo' : RepoSeen)
    (work work' : WorkSeen) (outcome : Outcome) : Type 0 where
  pub is : IsOutcome object told p outcome
  pub looked : IsLookedAt c p outcome repo repo' work work'
  pub says : SaysKind outcome.failed (is_of_other_kind outcome.fate) work'.files

-- it came to this fate, with this content
pub record Looks (object told : List ℕ → Told) (c : Cleaning) (p : CheckinPath) (repo repo' : RepoSeen)
    (work work' : WorkSeen) (content : List ℕ) (fate : Fate) : Type 0 where
  pub outcome : Outcome
  pub fated : outcome.fate ≡ fate
  pub filled : outcome.content ≡ content
  pub looked : IsPathLookedAt object told c p repo repo' work work' outcome

-- a path's driver is one of so many, and then the path has 1 to 4,096 bytes
pub record IsAskable (count : ℕ) (path : List ℕ) (d : PathDriver) : Type 0 where
  pub place : d.place < count
  pub some : 1 ≤ length path
  pub within : length path ≤ 4096

abbrev pub IsAskableBy : ℕ → List ℕ → Option PathDriver → Type 0
IsAskableBy count path None = Unit {0}
IsAskableBy count path (Some d) = IsAskable count path d

-- a path whose file is stored is text, and its driver can be asked for it
abbrev pub IsOpenBy : ℕ → Way → List ℕ → Type 0
IsOpenBy count (way.Stored storing) path = IsUtf8 path × IsAskableBy count path storing.driver
IsOpenBy count way.Kept path = Unit {0}
IsOpenBy count way.UnknownEncoding path = Unit {0}
IsOpenBy count way.NoProcess path = Unit {0}

abbrev pub IsOpen : ℕ → CheckinPath → Type 0
IsOpen count p = IsOpenBy count p.way p.path
