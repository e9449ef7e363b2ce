-- What a repository holds: its index, its settings, the attribute files outside its index, and its plan.
use Rattle.std.specs.Prelude.{◌≡◌, ◌≢◌, ◌⊎◌, ◌≤◌, ℕ, true, List, [], length, Some, Ok}
use Rattle.std.specs.Prelude.{Err}
use Rattle.edge_kit.specs.Told.{Told, RepoTold, TellsBytes, TellsNone, TellsLong}
use Rattle.git_index.specs.Spelling.{IsIndex}
use Rattle.git_index.specs.Reading.{index_fault}
use Rattle.git_index.specs.declared.entry.Entry.{Entry}
use Rattle.git_index.specs.declared.fault.IndexFault.{IndexFault}
use Rattle.git_index.specs.declared.fault.IndexFault.TheVariants as index
use Rattle.git_config.specs.Reading.{config_at}
use Rattle.git_config.specs.declared.fault.ConfigFault.{ConfigFault}
use Rattle.git_config.specs.declared.fault.ConfigFault.TheVariants as config
use Rattle.git_config.specs.declared.setting.Setting.{Setting}
use Rattle.settings_view.specs.View.{settings_of}
use Rattle.settings_view.specs.declared.view.Settings.{Settings}
use Rattle.settings_view.specs.declared.fault.SettingFault.{SettingFault}
use Rattle.attr_line.specs.File.{attributes_at}
use Rattle.attr_line.specs.declared.file.AttrFile.{AttrFile}
use Rattle.attr_stack.specs.declared.files.OuterFiles.{OuterFiles}
use Rattle.checkout_plan.specs.declared.path_plan.Plan.{Plan}
use Rattle.checkout_plan.specs.Making.{HasPlan, max_attributes, max_drivers}

-- an index of these entries is what is told
pub record HasIndex (told : Told) (entries : List Entry) : Type 0 where
  pub bytes : List ℕ
  pub tells : TellsBytes told bytes
  pub is_index : IsIndex bytes entries

-- the most bytes of an index
abbrev pub max_index : ℕ
max_index = 67108864

-- an index is there, and this is the first fault of its bytes
abbrev pub HasIndexFault : Told → IndexFault → Type 0
HasIndexFault told fault =
    ((bytes : List ℕ) × TellsBytes told bytes
    × (index_fault bytes ≡ Some fault) × (fault ≢ index.NoMemory))
    ⊎ ((fault ≡ index.TooLarge) × TellsLong told max_index)

-- The bytes of a file that may be absent, if they are told. An absent one is empty.
abbrev pub HasBytes : Told → List ℕ → Type 0
HasBytes told bytes = TellsBytes told bytes ⊎ (TellsNone told × (bytes ≡ []))

-- the most bytes of a configuration
abbrev pub max_config : ℕ
max_config = 1048576

-- a configuration of this list is what is told
pub record HasList (told : Told) (list : List Setting) : Type 0 where
  pub bytes : List ℕ
  pub has : HasBytes told bytes
  pub reads : config_at bytes ≡ Ok list

-- these settings are what the configuration says
pub record HasSettings (told : Told) (settings : Settings) : Type 0 where
  pub list : List Setting
  pub has : HasList told list
  pub says : settings_of list ≡ Ok settings

-- the configuration has this list, and says these settings
pub record IsConfigured (told : Told) (config : List Setting) (settings : Settings) : Type 0 where
  pub has : HasList told config
  pub says : settings_of config ≡ Ok settings

-- the configuration has this fault first
abbrev pub HasConfigFault : Told → ConfigFault → Type 0
HasConfigFault told fault =
    ((bytes : List ℕ) × HasBytes told bytes × (config_at bytes ≡ Err fault))
    ⊎ ((fault ≡ config.TooLarge) × TellsLong told max_config)

-- the configuration reads, and its settings have this fault first
abbrev pub HasSettingFault : Told → SettingFault → Type 0
HasSettingFault told fault =
    (list : List Setting) × HasList told list × (settings_of list ≡ Err fault)

-- an attribute file outside the index says this
pub record HasAttributes (told : Told) (file : AttrFile) : Type 0 where
  pub bytes : List ℕ
  pub has : HasBytes told bytes
  pub within : length bytes ≤ max_attributes
  pub says : file ≡ attributes_at bytes true

-- what the index, the configuration and the attribute files outside the index hold
pub record HasSources (told : RepoTold) (entries : List Entry) (settings : Settings)
    (outer : OuterFiles) : Type 0 where
  pub index : HasIndex told.index entries
  pub config : HasSettings told.config settings
  pub info : HasAttributes told.info outer.info
  pub base : HasAttributes told.base outer.base

-- the plan is that of the repository
pub record IsPlanned (told : RepoTold) (plan : Plan) : Type 0 where
  pub entries : List Entry
  pub settings : Settings
  pub outer : OuterFiles
  pub sources : HasSources told entries settings outer
  pub made : HasPlan told.object entries outer settings plan
  pub few : length plan.drivers ≤ max_drivers
