-- When a path comes back from the worktree unchanged.
use Rattle.std.specs.Prelude.{◌≡◌, ◌≤◌, ℕ, false, List, length, Option, Some, None, Ok}
use Rattle.edge_kit.specs.Told.{Told, Raw}
use Rattle.git_config.specs.declared.setting.Setting.{Setting}
use Rattle.git_index.specs.declared.entry.Entry.{Entry}
use Rattle.attr_stack.specs.declared.files.AttrFiles.{AttrFiles}
use Rattle.settings_view.specs.Drivers.{drivers_told}
use Rattle.settings_view.specs.declared.drivers.SingleRun.TheVariants.{Clean}
use Rattle.settings_view.specs.declared.view.Driver.{Driver}
use Rattle.settings_view.specs.declared.view.Settings.{Settings}
use Rattle.settings_view.specs.View.{settings_of}
use Rattle.object_dir.specs.Object.{object_of}
use Rattle.tree_encoding.specs.declared.prepared.Prepared.{Prepared}
use Rattle.convert_plan.specs.Prepared.{prepared}
use Rattle.convert_plan.specs.declared.conversion.Conversion.{Conversion}
use Rattle.back_convert.specs.Laws.{HasSafeEnds, HasSafeKeywords, HasSafeMarkIf, conversion}
use Rattle.checkout_plan.specs.Paths.{asked_path}
use Rattle.checkin_paths.specs.declared.path.PathDriver.{PathDriver}
use Rattle.checkin_paths.specs.declared.path.Storing.{Storing}
use Rattle.checkin_paths.specs.CleanedFiles.{Asked}
use Rattle.checkin_paths.specs.declared.path.Way.TheVariants.{Stored}
use Rattle.checkin_paths.specs.declared.fate.Fate.TheVariants.{Same}
use Rattle.checkin_paths.specs.Fates.{max_file}
use Rattle.checkin_paths.specs.Paths.{way_of, checkin_path}
use Rattle.checkin_paths.specs.Outcomes.{Outcome, IsOutcome}

-- what a checkout without drivers makes of the content of an entry's object
abbrev pub tree_file : AttrFiles → Settings → Entry → List ℕ → Prepared
tree_file files settings e content = prepared (asked_path files settings e).conversion e.name content

-- what a checkout does with a path that is stored so
abbrev pub conversion_of : Storing → Conversion
conversion_of storing = conversion storing.ident storing.action storing.encoding

-- The content loses nothing on the way to the worktree and back: in its encoding, in its line ends, and in its
-- keywords.
pub record LosesNothing (storing : Storing) (name content : List ℕ) : Type 0 where
  pub encoded : (prepared (conversion_of storing) name content).unencoded ≡ false
  pub ends : HasSafeEnds storing.ident storing.action name content
  pub keywords : HasSafeKeywords storing.ident content
  pub mark : HasSafeMarkIf storing.encoding content

-- The bytes of a path's file: those that a checkout without drivers makes of the content. With a driver: any bytes that
-- the driver cleans to the prepared content.
abbrev pub IsFileOf : Option PathDriver → Option Asked → List ℕ → List ℕ → List ℕ → Type 0
IsFileOf None asked made ready bytes = bytes ≡ made
IsFileOf (Some d) asked made ready bytes = (a : Asked) → asked ≡ Some a → a.answer ≡ Ok ready

-- these settings and these drivers that clean are those of one configuration
pub record AreOfOne (config : List Setting) (settings : Settings) (drivers : List Driver) : Type 0 where
  pub says : settings_of config ≡ Ok settings
  pub cleaning : drivers_told Clean config ≡ Ok drivers

-- the path's file is stored, and is what a checkout makes of the content that its object gives
pub record IsAsCheckedOut (object told : List ℕ → Told) (files : AttrFiles) (drivers : List Driver)
    (settings : Settings) (e : Entry) (storing : Storing) (raw content : List ℕ) (asked : Option Asked) : Type 0 where
  pub way : way_of files drivers settings e ≡ Stored storing
  pub there : object e.name ≡ Raw raw
  pub gives : object_of raw e.name ≡ Ok content
  pub bytes : List ℕ
  pub file : told e.path ≡ Raw bytes
  pub is_file : IsFileOf storing.driver asked (tree_file files settings e content).bytes
      (prepared (conversion_of storing) e.name content).bytes bytes
  pub within : length bytes ≤ max_file

-- a path of that name with that content is the same, and its file is stored as that content
abbrev pub ComesBack : Storing → List ℕ → List ℕ → List ℕ → Type 0
ComesBack storing raw name content = (object told : List ℕ → Told) (files : AttrFiles) (config : List Setting)
    (settings : Settings) (drivers : List Driver) (e : Entry) (o : Outcome) → e.name ≡ name
    → AreOfOne config settings drivers
    → IsAsCheckedOut object told files drivers settings e storing raw content o.asked
    → IsOutcome object told (checkin_path files drivers settings e) o → (o.fate ≡ Same) × (o.content ≡ content)
