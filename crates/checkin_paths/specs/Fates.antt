-- What becomes of each path, by what is told of its file and of its object.
use Rattle.std.specs.Prelude.{◌≡◌, ◌≢◌, ◌⊎◌, ◌≤◌, ℕ, Bool, true, false, List, length, codes, Option, Some, None}
use Rattle.std.specs.Prelude.{Ok, Err}
use Rattle.edge_kit.specs.Told.{Told, TellsBytes, TellsNone, TellsLong}
use Rattle.sha1.specs.Sha1.{sha1}
use Rattle.object_dir.specs.Object.{Gives, IsObject}
use Rattle.object_dir.specs.declared.fault.ObjectFault.{ObjectFault}
use Rattle.object_dir.specs.declared.fault.ObjectFault.TheVariants as object
use Rattle.object_dir.specs.Spelling.{spelled_blob}
use Rattle.eol_convert.specs.declared.action.Action.{Action}
use Rattle.eol_convert.specs.declared.action.Action.TheVariants.{Binary, TextLf, TextCrlf, AutoLf, AutoCrlf}
use Rattle.back_convert.specs.Ends.{has_crlf}
use Rattle.back_convert.specs.Laws.{back_encoded_if, stored}
use Rattle.clean_drivers.specs.Causes.{cause_word as clean_word}
use Rattle.checkin_paths.specs.declared.path.PathDriver.{PathDriver}
use Rattle.checkin_paths.specs.declared.path.Storing.{Storing}
use Rattle.checkin_paths.specs.declared.path.Way.{Way}
use Rattle.checkin_paths.specs.declared.path.Way.TheVariants as way
use Rattle.checkin_paths.specs.CleanedFiles.{Asked, IsCleaned}
use Rattle.checkin_paths.specs.declared.fate.Fate.{Fate}
use Rattle.checkin_paths.specs.declared.fate.Fate.TheVariants.{Same, Changed, Gone, Kept, Failed}
use Rattle.checkin_paths.specs.declared.fate.CheckinCause.{CheckinCause}
use Rattle.checkin_paths.specs.declared.fate.CheckinCause.TheVariants.{Encoding, NoProcess, Read, TooLarge, Filter}
use Rattle.checkin_paths.specs.declared.fate.CheckinCause.TheVariants.{EncodingForm, OtherKind}

-- the most bytes of a file
abbrev pub max_file : ℕ
max_file = 268435456

-- the two actions that look at the index's content of the path
abbrev pub is_auto : Action → Bool
is_auto Binary = false
is_auto TextLf = false
is_auto TextCrlf = false
is_auto AutoLf = true
is_auto AutoCrlf = true

-- an object that is absent or wrong can't be read; a failure and out of memory say nothing of it
abbrev pub IsWrong : ObjectFault → Type 0
IsWrong object.Absent = Unit {0}
IsWrong object.TooLarge = Unit {0}
IsWrong object.Header = Unit {0}
IsWrong object.Size = Unit {0}
IsWrong (object.WrongName found) = Unit {0}
IsWrong object.ReadFailed = ⊥
IsWrong object.NoMemory = ⊥

-- whether the object of that name can be read and has a CR directly before an LF
abbrev pub ReadsOld : Told → List ℕ → Bool → Type 0
ReadsOld told name old =
    ((content : List ℕ) × Gives told name (Ok content) × (old ≡ has_crlf content))
    ⊎ ((fault : ObjectFault) × IsWrong fault × IsObject told name (Err fault) × (old ≡ false))

-- the same where an action asks for it
abbrev pub HasOldBy : Bool → Told → List ℕ → Bool → Type 0
HasOldBy true object name old = ReadsOld object name old
HasOldBy false object name old = old ≡ false

abbrev pub HasOld : Action → Told → List ℕ → Bool → Type 0
HasOld action = HasOldBy (is_auto action)

-- the file's bytes, within the limit, with what the index's content of the path says
pub record HasFile (object file : Told) (name : List ℕ) (action : Action) : Type 0 where
  pub bytes : List ℕ
  pub tells : TellsBytes file bytes
  pub within : length bytes ≤ max_file
  pub old : Bool
  pub has_old : HasOld action object name old

-- the file's bytes, as the driver cleaned them if there is one
pub record IsClean (object file : Told) (name : List ℕ) (storing : Storing) (asked : Option Asked) : Type 0 where
  pub has : HasFile object file name storing.action
  pub cleaned : List ℕ
  pub is_cleaned : IsCleaned storing.driver asked has.bytes (Ok cleaned)

-- the same, out of their encoding, with the line ends of the repository and `$Id$`, are this content
pub record IsBlobOf (object file : Told) (name : List ℕ) (storing : Storing) (asked : Option Asked) (content : List ℕ)
    : Type 0 where
  pub clean : IsClean object file name storing asked
  pub is : stored storing.ident storing.action storing.encoding clean.has.old clean.cleaned ≡ Some content

-- the name of the blob with a content
abbrev pub name_of : List ℕ → List ℕ
name_of content = sha1 (spelled_blob content)

-- a file is there, by what is told
abbrev pub IsThere : Told → Type 0
IsThere file = (bytes : List ℕ) × TellsBytes file bytes

-- What becomes of a file that is stored, for which its driver was asked so, and whose content is this if it has one.
-- Why a file is unread or of another kind is said by the counts (`IsUnread`, `IsOfOtherKind`).
abbrev pub HasStoredFate : Told → Told → List ℕ → Storing → Option Asked → List ℕ → Fate → Type 0
HasStoredFate object file name storing asked content Same =
    IsBlobOf object file name storing asked content × (name_of content ≡ name)
HasStoredFate object file name storing asked content (Changed new) =
    IsBlobOf object file name storing asked content × (name_of content ≡ new) × (new ≢ name)
HasStoredFate object file name storing asked content Gone = TellsNone file × (asked ≡ None)
HasStoredFate object file name storing asked content Kept = ⊥
HasStoredFate object file name storing asked content (Failed Encoding) = ⊥
HasStoredFate object file name storing asked content (Failed NoProcess) = ⊥
HasStoredFate object file name storing asked content (Failed Read) = asked ≡ None
HasStoredFate object file name storing asked content (Failed OtherKind) = asked ≡ None
HasStoredFate object file name storing asked content (Failed TooLarge) =
    TellsLong file max_file × ((old : Bool) × HasOld storing.action object name old) × (asked ≡ None)
HasStoredFate object file name storing asked content (Failed (Filter why)) =
    (has : HasFile object file name storing.action) × IsCleaned storing.driver asked has.bytes (Err why)
HasStoredFate object file name storing asked content (Failed EncodingForm) =
    (clean : IsClean object file name storing asked) × (back_encoded_if storing.encoding clean.cleaned ≡ None)

-- what becomes of a path, for which its driver was asked so
abbrev pub HasFate : Told → Told → List ℕ → Way → Option Asked → List ℕ → Fate → Type 0
HasFate object file name way.Kept asked content fate = (fate ≡ Kept) × (asked ≡ None)
HasFate object file name way.UnknownEncoding asked content fate = (fate ≡ Failed Encoding) × (asked ≡ None)
HasFate object file name way.NoProcess asked content fate = (fate ≡ Failed NoProcess) × (asked ≡ None)
HasFate object file name (way.Stored storing) asked content fate =
    HasStoredFate object file name storing asked content fate

-- the driver that a path has
abbrev pub driver_of : Way → Option PathDriver
driver_of (way.Stored storing) = storing.driver
driver_of way.Kept = None
driver_of way.UnknownEncoding = None
driver_of way.NoProcess = None

-- the words of the causes
abbrev pub cause_word : CheckinCause → List ℕ
cause_word Encoding = codes "encoding"
cause_word NoProcess = codes "no-process"
cause_word Read = codes "read"
cause_word OtherKind = codes "type"
cause_word TooLarge = codes "too-large"
cause_word (Filter why) = clean_word why
cause_word EncodingForm = codes "encoding-form"
