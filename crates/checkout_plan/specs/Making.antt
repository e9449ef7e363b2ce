-- What the making of a plan reads, and why there is none.
use Rattle.std.specs.Prelude.{◌≡◌, ℕ, ◌<◌, ◌≤◌, ◌-◌, ◌^◌, min, true, List, [], ◌∷◌, ◌++◌, length, take, map}
use Rattle.std.specs.Prelude.{slice_get, Option, Some, None, Result, Ok, Err}
use Rattle.std.specs.List.{AllZip}
use Rattle.edge_kit.specs.Told.{Told, MayFail}
use Rattle.git_index.specs.declared.entry.Entry.{Entry}
use Rattle.object_dir.specs.Object.{Gives, IsObject}
use Rattle.object_dir.specs.declared.fault.ObjectFault.{ObjectFault}
use Rattle.object_dir.specs.declared.fault.ObjectFault.TheVariants as object
use Rattle.attr_stack.specs.declared.files.OuterFiles.{OuterFiles}
use Rattle.checkout_core.specs.declared.verdict.ObjectKind.{ObjectKind}
use Rattle.checkout_core.specs.declared.verdict.ObjectKind.TheVariants as kind
use Rattle.settings_view.specs.declared.view.Settings.{Settings}
use Rattle.checkout_plan.specs.declared.path_plan.Plan.{Plan}
use Rattle.checkout_plan.specs.declared.fault.PlanFault.{PlanFault}
use Rattle.checkout_plan.specs.declared.fault.PlanFault.TheVariants as fault
use Rattle.checkout_plan.specs.AttributeFiles.{is_attribute_file, attribute_entries}
use Rattle.checkout_plan.specs.Paths.{plan_of}

-- what is wrong with an object, if it was read
abbrev pub object_kind : ObjectFault → Option ObjectKind
object_kind object.Absent = Some kind.Absent
object_kind object.TooLarge = Some kind.TooLarge
object_kind object.Header = Some kind.Header
object_kind object.Size = Some kind.Size
object_kind (object.WrongName found) = Some kind.WrongName
object_kind object.ReadFailed = None
object_kind object.NoMemory = None

-- this is wrong with the object of that name, by what is told
pub record FitsKind (told : Told) (name : List ℕ) (kind : ObjectKind) : Type 0 where
  pub fault : ObjectFault
  pub is : object_kind fault ≡ Some kind
  pub fits : IsObject told name (Err fault)

-- the most bytes of an attribute file
abbrev pub max_attributes : ℕ
max_attributes = 1048576

-- the content of an attribute file, by what is told of its object
abbrev pub HasContent : Told → Entry → List ℕ → Type 0
HasContent told e content = Gives told e.name (Ok content) × (length content ≤ max_attributes)

-- the same for each attribute file among these entries, in order
abbrev pub HaveContents : (List ℕ → Told) → List Entry → List (List ℕ) → Type 0
HaveContents object es contents =
    AllZip (λ e content. HasContent (object e.name) e content) (attribute_entries es) contents

-- The blobs of the attribute files among these entries, as they are given back if none failed.
abbrev pub blobs_of : List Entry → List (List ℕ × ℕ)
blobs_of es = map (λ e. (e.name, 0)) (attribute_entries es)

-- The attribute file of entry k is the first that has no content.
pub record IsFirstFault (object : List ℕ → Told) (es : List Entry) (k : ℕ) : Type 0 where
  pub entry : Entry
  pub there : slice_get es k ≡ Some entry
  pub is_file : is_attribute_file entry ≡ true
  pub contents : List (List ℕ)
  pub read : HaveContents object (take k es) contents

-- The blobs of the attribute files before entry k, and that of entry k, which has this count.
abbrev pub blobs_to : List Entry → ℕ → Entry → ℕ → List (List ℕ × ℕ)
blobs_to es k entry count = blobs_of (take k es) ++ (entry.name, count) ∷ []

-- the most drivers in use
abbrev pub max_drivers : ℕ
max_drivers = 16

-- a plan of these entries, by what is told of their attribute files
pub record HasPlan (object : List ℕ → Told) (es : List Entry) (outer : OuterFiles)
    (settings : Settings) (plan : Plan) : Type 0 where
  pub contents : List (List ℕ)
  pub read : HaveContents object es contents
  pub is : plan ≡ plan_of es settings outer contents

-- a number as a fault gives it, up to 2^32 - 1
abbrev pub told_number : ℕ → ℕ
told_number n = min n (2 ^ 32 - 1)

-- why there is no plan, by what is told; out of memory needs no cause
abbrev pub HasPlanFault : (List ℕ → Told) → List Entry → OuterFiles → Settings → PlanFault → Type 0
HasPlanFault object es outer settings (fault.AttributeRead k) =
    (f : IsFirstFault object es k) × MayFail (object f.entry.name)
HasPlanFault object es outer settings (fault.Attribute k kind) =
    (f : IsFirstFault object es k) × FitsKind (object f.entry.name) f.entry.name kind
HasPlanFault object es outer settings (fault.AttributeTooLarge k) =
    (f : IsFirstFault object es k) × ((content : List ℕ)
    × Gives (object f.entry.name) f.entry.name (Ok content) × (max_attributes < length content))
HasPlanFault object es outer settings (fault.TooManyDrivers n) =
    (plan : Plan) × HasPlan object es outer settings plan
    × (n ≡ told_number (length plan.drivers)) × (max_drivers < length plan.drivers)
HasPlanFault object es outer settings fault.NoMemory = Unit {0}

-- What the making of a plan gives: the plan, or the first fault, with what shows it.
abbrev pub MakesPlan : (List ℕ → Told) → List Entry → OuterFiles → Settings → Result Plan PlanFault
    → Type 0
MakesPlan object es outer settings (Ok plan) =
    HasPlan object es outer settings plan × (length plan.drivers ≤ max_drivers)
MakesPlan object es outer settings (Err f) = HasPlanFault object es outer settings f

-- Which blobs were given back meanwhile: those of the attribute files that were read, none of which
-- failed, and last the one whose reading failed.
abbrev pub GivesBack : List Entry → List (List ℕ × ℕ) → List (List ℕ × ℕ) → Result Plan PlanFault
    → Type 0
GivesBack es before after (Ok plan) = after ≡ before ++ blobs_of es
GivesBack es before after (Err (fault.AttributeRead k)) =
    (entry : Entry) × (slice_get es k ≡ Some entry)
    × ((count : ℕ) × (0 < count) × (after ≡ before ++ blobs_to es k entry count))
GivesBack es before after (Err (fault.Attribute k kind)) =
    (entry : Entry) × (slice_get es k ≡ Some entry) × (after ≡ before ++ blobs_to es k entry 0)
GivesBack es before after (Err (fault.AttributeTooLarge k)) =
    (entry : Entry) × (slice_get es k ≡ Some entry) × (after ≡ before ++ blobs_to es k entry 0)
GivesBack es before after (Err (fault.TooManyDrivers n)) = after ≡ before ++ blobs_of es
GivesBack es before after (Err fault.NoMemory) =
    (k : ℕ) × (k ≤ length es) × (after ≡ before ++ blobs_of (take k es))
