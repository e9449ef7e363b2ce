-- What the code holds and meets while a plan is made.
use Rattle.std.specs.Prelude.{◌≡◌, ℕ, ◌<◌, ◌≤◌, ◌⊎◌, Bool, true, false, get_or, List, [], ◌∷◌, ◌++◌}
use Rattle.std.specs.Prelude.{length, map, fold, take, codes, slice_index_or, Option, Some, None, Result, Ok, Err}
use Rattle.std.specs.Global.{Vec}
use Rattle.std.specs.Borrow.{Bor}
use Rattle.std.specs.BTreeMap.{BTreeMap, get_by}
use Rattle.std.specs.Ordering.{nat_cmp}
use Rattle.std.specs.Cmp.Lexicographic.{slice_cmp}
use Rattle.edge_kit.specs.Told.{Told, MayFail}
use Rattle.git_index.specs.declared.entry.Entry.{Entry}
use Rattle.object_dir.specs.Object.{Gives}
use Rattle.object_dir.specs.declared.fault.ObjectFault.{ObjectFault}
use Rattle.object_dir.specs.declared.fault.ObjectFault.TheVariants as object
use Rattle.attr_line.specs.declared.file.AttrFile.{AttrFile}
use Rattle.attr_stack.specs.declared.files.OuterFiles.{OuterFiles}
use Rattle.attr_line.specs.declared.state.AttrState.{AttrState}
use Rattle.attr_line.specs.declared.state.AttrState.TheVariants.{Unspecified}
use Rattle.attr_stack.specs.declared.files.FileAt.{FileAt}
use Rattle.attr_stack.specs.declared.files.AttrFiles.{AttrFiles}
use Rattle.convert_plan.specs.Conversion.{conversion_of}
use Rattle.checkout_core.specs.declared.path.Start.{Start}
use Rattle.checkout_core.specs.declared.path.Start.TheVariants as start
use Rattle.settings_view.specs.declared.view.Driver.{Driver}
use Rattle.settings_view.specs.declared.view.Settings.{Settings}
use Rattle.checkout_plan.specs.declared.paths.Asking.{Asking}
use Rattle.checkout_plan.specs.declared.path_plan.PathPlan.{PathPlan}
use Rattle.checkout_plan.specs.declared.path_plan.Plan.{Plan}
use Rattle.checkout_plan.specs.declared.fault.PlanFault.{PlanFault}
use Rattle.checkout_plan.specs.declared.fault.PlanFault.TheVariants as fault
use Rattle.checkout_plan.specs.AttributeFiles.{with_file, files_at, is_attribute_file}
use Rattle.checkout_plan.specs.AttributeFiles.{attribute_entries, attribute_files}
use Rattle.checkout_plan.specs.Paths.{conversion_names, place_named, filter_place, filter_start, converted}
use Rattle.checkout_plan.specs.Paths.{is_used, number_at}
use Rattle.checkout_plan.specs.Making.{FitsKind, object_kind, HaveContents, max_attributes, max_drivers}
use Rattle.checkout_plan.specs.Making.{blobs_of, told_number}
use Rattle.checkout_core.specs.declared.verdict.ObjectKind.{ObjectKind}

-- attribute files by their folders
abbrev pub Files : Type 0
Files = BTreeMap (Bor (List ℕ)) AttrFile

abbrev pub file_seen : Bor (List ℕ) × AttrFile → FileAt
file_seen e = record { folder = e.0.now; file = e.1 }

abbrev pub files_seen : Files → List FileAt
files_seen m = map file_seen m.entries

-- the list of blobs that were given back, with one more
abbrev pub with_blob : List (List ℕ × ℕ) → List ℕ → ℕ → List (List ℕ × ℕ)
with_blob returned name count = returned ++ (name, count) ∷ []

-- An object's blob is given back, and its count rose if reading it failed. If memory ran out there
-- may have been no blob.
abbrev pub ReturnsObject : List ℕ → List (List ℕ × ℕ) → List (List ℕ × ℕ)
    → Result (Vec ℕ) ObjectFault → Type 0
ReturnsObject name before after (Err object.ReadFailed) =
    (count : ℕ) × (0 < count) × (after ≡ with_blob before name count)
ReturnsObject name before after (Err object.NoMemory) = (after ≡ before) ⊎ (after ≡ with_blob before name 0)
ReturnsObject name before after answer = after ≡ with_blob before name 0

-- the same for the blob of an attribute file
abbrev pub ReturnsFile : {T : Type 0} → List ℕ → List (List ℕ × ℕ) → List (List ℕ × ℕ)
    → Result T PlanFault → Type 0
ReturnsFile name before after (Err (fault.AttributeRead k)) =
    (count : ℕ) × (0 < count) × (after ≡ with_blob before name count)
ReturnsFile name before after (Err fault.NoMemory) = (after ≡ before) ⊎ (after ≡ with_blob before name 0)
ReturnsFile name before after answer = after ≡ with_blob before name 0

-- why the attribute file of an entry at that place of the index has no content
abbrev pub FaultAt : Told → Entry → ℕ → PlanFault → Type 0
FaultAt told e place (fault.AttributeRead k) = (k ≡ place) × MayFail told
FaultAt told e place (fault.Attribute k kind) = (k ≡ place) × FitsKind told e.name kind
FaultAt told e place (fault.AttributeTooLarge k) =
    (k ≡ place)
    × ((content : List ℕ) × Gives told e.name (Ok content) × (max_attributes < length content))
FaultAt told e place (fault.TooManyDrivers n) = ⊥
FaultAt told e place fault.NoMemory = Unit {0}

-- the fault of an attribute file at that place whose object gave no content
abbrev pub fault_without : ℕ → Option ObjectKind → ObjectFault → PlanFault
fault_without place (Some k) unread = fault.Attribute place k
fault_without place None object.NoMemory = fault.NoMemory
fault_without place None unread = fault.AttributeRead place

abbrev pub unread_fault : ℕ → ObjectFault → PlanFault
unread_fault place unread = fault_without place (object_kind unread) unread

-- the attribute files among these entries are read, and stand at their places
pub record Reads (object : List ℕ → Told) (es : List Entry) (before after : List FileAt) : Type 0 where
  pub contents : List (List ℕ)
  pub read : HaveContents object es contents
  pub stand : after ≡ fold with_file before (files_at (attribute_entries es) contents)

-- the file of an entry isn't read
pub record Fails (object : List ℕ → Told) (e : Entry) (place : ℕ) (f : PlanFault) : Type 0 where
  pub is_file : is_attribute_file e ≡ true
  pub why : FaultAt (object e.name) e place f

-- the blob of an entry that is an attribute file is given back
abbrev pub ReturnsEntry : {T : Type 0} → Entry → List (List ℕ × ℕ) → List (List ℕ × ℕ)
    → Result T PlanFault → Type 0
ReturnsEntry {T} e before after (Ok x) = after ≡ before ++ blobs_of (e ∷ [])
ReturnsEntry {T} e before after (Err f) = ReturnsFile {T = T} e.name before after (Err f)

-- the attribute files of an index are read, as they reach its paths
pub record ReadsAll (object : List ℕ → Told) (es : List Entry) (outer : OuterFiles) (files : AttrFiles) : Type 0 where
  pub contents : List (List ℕ)
  pub read : HaveContents object es contents
  pub is : files ≡ attribute_files outer es contents

-- places of drivers by their names
abbrev pub Places : Type 0
Places = BTreeMap (Bor (List ℕ)) ℕ

abbrev pub place_in : Places → List ℕ → Option ℕ
place_in places name = get_by (λ k. slice_cmp nat_cmp name k.now) places

-- each name has the place that these drivers give it
abbrev pub ArePlaces : Places → List Driver → Type 0
ArePlaces places drivers = (name : List ℕ) → place_in places name ≡ place_named 0 drivers name

-- the attributes that are looked up for a path: those of a conversion, and `filter`
abbrev pub asked_names : List (List ℕ)
asked_names = conversion_names ++ codes "filter" ∷ []

-- a file by the states of these
abbrev pub path_by : Settings → Entry → List AttrState → PathPlan
path_by settings e states = record
    (converted e (filter_start settings.drivers (slice_index_or states 5 Unspecified))
    (conversion_of (take 5 states) settings.autocrlf settings.eol))
    { driver = filter_place settings.drivers (slice_index_or states 5 Unspecified) }

-- it has the names of these attributes, and knows the places of the settings' drivers
pub record IsReady (asking : Asking) : Type 0 where
  pub names : asking.names.items ≡ asked_names
  pub places : ArePlaces asking.places asking.settings.now.drivers

-- which of the drivers some path asks for, by their places
abbrev pub AreUsed : List Bool → List PathPlan → Type 0
AreUsed used paths = (k : ℕ) → k < length used → get_or used k false ≡ is_used paths k

-- a driver's number by its place
abbrev pub AreNumbers : List ℕ → List PathPlan → Type 0
AreNumbers numbers paths = (k : ℕ) → k < length numbers → get_or numbers k 0 ≡ number_at paths k

-- a path's driver is renumbered, if its place has a number
abbrev pub renumbered_start : List ℕ → Start → Start
renumbered_start numbers (start.Desk place required) = start.Desk (get_or numbers place place) required
renumbered_start numbers s = s

abbrev pub renumbered : List ℕ → PathPlan → PathPlan
renumbered numbers p = record p { start = renumbered_start numbers p.start }

-- the driver of a path is one of the first `count`
abbrev pub StartsWithin : ℕ → Start → Type 0
StartsWithin count (start.Desk place required) = place < count
StartsWithin count s = Unit {0}

abbrev pub IsWithin : ℕ → PathPlan → Type 0
IsWithin count p = StartsWithin count p.start

-- a plan is given as it is, and refused exactly if too many drivers are in use
abbrev pub IsLimited : Plan → Result Plan PlanFault → Type 0
IsLimited plan (Ok p) = (p ≡ plan) × (length p.drivers ≤ max_drivers)
IsLimited plan (Err (fault.TooManyDrivers n)) =
    (n ≡ told_number (length plan.drivers)) × (max_drivers < length plan.drivers)
IsLimited plan (Err f) = ⊥
