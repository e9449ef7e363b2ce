-- What the parts of the reading promise each other.
use Rattle.std.specs.Prelude.{◌≡◌, ◌⊎◌, ◌<◌, ℕ, List, [], length, slice_get, Option, Some, None}
use Rattle.std.specs.Prelude.{Result, Ok, Err}
use Rattle.std.specs.Global.{Vec}
use Rattle.edge_kit.specs.Faults.{Rose}
use Rattle.edge_kit.specs.declared.faults.TakeFault.{TakeFault}
use Rattle.edge_kit.specs.declared.faults.TakeFault.TheVariants as take
use Rattle.edge_kit.specs.Seen.{RepoSeen}
use Rattle.edge_kit.specs.Told.{RepoTold}
use Rattle.git_index.specs.declared.entry.Entry.{Entry}
use Rattle.git_index.specs.declared.fault.IndexFault.{IndexFault}
use Rattle.git_index.specs.declared.fault.IndexFault.TheVariants as index
use Rattle.git_config.specs.Reading.{config_at}
use Rattle.git_config.specs.declared.fault.ConfigFault.{ConfigFault}
use Rattle.git_config.specs.declared.fault.ConfigFault.TheVariants as config
use Rattle.git_config.specs.declared.setting.Setting.{Setting}
use Rattle.settings_view.specs.View.{settings_of}
use Rattle.checkout_sources.specs.declared.sources.Configured.{Configured}
use Rattle.settings_view.specs.declared.fault.SettingFault.{SettingFault}
use Rattle.checkout_sources.specs.declared.planned.Planned.{Planned}
use Rattle.checkout_plan.specs.declared.fault.PlanFault.{PlanFault}
use Rattle.checkout_plan.specs.declared.fault.PlanFault.TheVariants as fault
use Rattle.checkout_sources.specs.declared.stop.Refusal.{Refusal}
use Rattle.checkout_sources.specs.declared.stop.Refusal.TheVariants as refusal
use Rattle.checkout_sources.specs.declared.stop.Stop.{Stop}
use Rattle.checkout_sources.specs.declared.stop.Stop.TheVariants as stop
use Rattle.checkout_sources.specs.Causes.{IsReadCause, IsPlanRead, IsRefusedFor, IsCutShort}
use Rattle.settings_view.specs.declared.fault.SettingFault.TheVariants as setting

-- the bytes that were taken of an index, which must be there
abbrev pub index_taken : Result (Option (Vec ℕ)) TakeFault → Result (List ℕ) Stop
index_taken (Ok (Some bytes)) = Ok bytes.items
index_taken (Ok None) = Err (stop.Refused refusal.IndexAbsent)
index_taken (Err take.TooLong) = Err (stop.Refused (refusal.Index index.TooLarge))
index_taken (Err take.Failed) = Err stop.ReadFault
index_taken (Err take.NoMemory) = Err stop.NoMemory

-- the bytes that were taken of a file that may be absent, or why a run stops there
abbrev pub taken_bytes : Refusal → Result (Option (Vec ℕ)) TakeFault → Result (List ℕ) Stop
taken_bytes too_long (Ok None) = Ok []
taken_bytes too_long (Ok (Some bytes)) = Ok bytes.items
taken_bytes too_long (Err take.TooLong) = Err (stop.Refused too_long)
taken_bytes too_long (Err take.Failed) = Err stop.ReadFault
taken_bytes too_long (Err take.NoMemory) = Err stop.NoMemory

-- why a run stops at a fault of the index, of the configuration, or of a setting
abbrev pub index_stop : IndexFault → Stop
index_stop index.NoMemory = stop.NoMemory
index_stop fault = stop.Refused (refusal.Index fault)

abbrev pub config_stop : ConfigFault → Stop
config_stop config.NoMemory = stop.NoMemory
config_stop fault = stop.Refused (refusal.Config fault)

abbrev pub setting_stop : SettingFault → Stop
setting_stop setting.NoMemory = stop.NoMemory
setting_stop fault = stop.Refused (refusal.Setting fault)

-- what the bytes of a configuration say, or the first fault of the file or of its settings
abbrev pub ReadsSettings : List ℕ → Result Configured Stop → Type 0
ReadsSettings bytes (Ok c) = (config_at bytes ≡ Ok c.config) × (settings_of c.config ≡ Ok c.settings)
ReadsSettings bytes (Err (stop.Refused (refusal.Config fault))) = config_at bytes ≡ Err fault
ReadsSettings bytes (Err (stop.Refused (refusal.Setting fault))) =
    (list : List Setting) × (config_at bytes ≡ Ok list) × (settings_of list ≡ Err fault)
ReadsSettings bytes (Err stop.NoMemory) = Unit {0}
ReadsSettings bytes (Err s) = ⊥

-- The reading of a file stops at a fault only if the count rose and the file may fail, and at a
-- refusal only by what is told.
abbrev pub StopsFor : {T : Type 0} → (Refusal → Type 0) → Type 0 → RepoSeen → RepoSeen
    → Result T Stop → Type 0
StopsFor cause fails old new (Ok x) = new.faults ≡ old.faults
StopsFor cause fails old new (Err stop.ReadFault) = Rose old.faults new.faults × fails
StopsFor cause fails old new (Err (stop.Refused r)) = (new.faults ≡ old.faults) × cause r
StopsFor cause fails old new (Err stop.NoMemory) = new.faults ≡ old.faults

-- a plan was read, with what the settings say of the workers
pub record IsRead (told : RepoTold) (p : Planned) (old new : RepoSeen) : Type 0 where
  pub read : IsPlanRead told p.plan old new
  pub workers : p.workers ≡ read.planned.settings.workers
  pub threshold : p.threshold ≡ read.planned.settings.threshold

-- how the reading of a plan ends
abbrev pub ReadsPlan : RepoTold → RepoSeen → RepoSeen → Result Planned Stop → Type 0
ReadsPlan told old new (Ok p) = IsRead told p old new
ReadsPlan told old new (Err stop.ReadFault) = IsReadCause told old new
ReadsPlan told old new (Err (stop.Refused r)) = IsRefusedFor told r old new
ReadsPlan told old new (Err stop.NoMemory) = IsCutShort told old new

-- the path of an entry
abbrev pub IsPathAt : List Entry → ℕ → List ℕ → Type 0
IsPathAt es number path = (entry : Entry) × (slice_get es number ≡ Some entry) × (path ≡ entry.path)

-- the entry that a fault of the plan names is there
abbrev pub IsWithin : List Entry → PlanFault → Type 0
IsWithin es (fault.AttributeRead k) = k < length es
IsWithin es (fault.Attribute k kind) = k < length es
IsWithin es (fault.AttributeTooLarge k) = k < length es
IsWithin es f = Unit {0}

-- The stop that a fault of the plan becomes. To name a path takes memory.
abbrev pub IsStopOf : List Entry → PlanFault → Stop → Type 0
IsStopOf es (fault.AttributeRead k) s = s ≡ stop.ReadFault
IsStopOf es (fault.Attribute k kind) s =
    (s ≡ stop.NoMemory)
    ⊎ ((path : List ℕ) × IsPathAt es k path × (s ≡ stop.Refused (refusal.Attribute path kind)))
IsStopOf es (fault.AttributeTooLarge k) s =
    (s ≡ stop.NoMemory)
    ⊎ ((path : List ℕ) × IsPathAt es k path × (s ≡ stop.Refused (refusal.AttributeTooLarge path)))
IsStopOf es (fault.TooManyDrivers n) s = s ≡ stop.Refused (refusal.TooManyDrivers n)
IsStopOf es fault.NoMemory s = s ≡ stop.NoMemory
