-- Why a repository is refused, and what a failed read leaves.
use Rattle.std.specs.Prelude.{◌≡◌, ◌⊎◌, ◌<◌, ◌≤◌, ◌++◌, ℕ, List, [], length, take, slice_get, Some}
use Rattle.edge_kit.specs.Faults.{Rose}
use Rattle.edge_kit.specs.Seen.{RepoSeen}
use Rattle.edge_kit.specs.Told.{RepoTold, TellsNone, TellsLong, MayFail}
use Rattle.git_index.specs.declared.entry.Entry.{Entry}
use Rattle.settings_view.specs.declared.view.Settings.{Settings}
use Rattle.attr_line.specs.declared.file.AttrFile.{AttrFile}
use Rattle.attr_stack.specs.declared.files.OuterFiles.{OuterFiles}
use Rattle.checkout_plan.specs.declared.path_plan.Plan.{Plan}
use Rattle.checkout_plan.specs.declared.fault.PlanFault.{PlanFault}
use Rattle.checkout_plan.specs.declared.fault.PlanFault.TheVariants as fault
use Rattle.checkout_plan.specs.Making.{HasPlanFault, blobs_of, blobs_to, max_attributes}
use Rattle.checkout_sources.specs.declared.stop.Refusal.{Refusal}
use Rattle.checkout_sources.specs.declared.stop.Refusal.TheVariants as refusal
use Rattle.checkout_sources.specs.Sources.{HasIndex, HasIndexFault, HasSettings, HasConfigFault}
use Rattle.checkout_sources.specs.Sources.{HasSettingFault, HasAttributes, HasSources, IsPlanned}
use Rattle.std.specs.Prelude.{sum_by}

abbrev pub IsIndexRead : RepoTold → Type 0
IsIndexRead told = (entries : List Entry) × HasIndex told.index entries

abbrev pub IsConfigRead : RepoTold → Type 0
IsConfigRead told = (settings : Settings) × HasSettings told.config settings

abbrev pub IsInfoRead : RepoTold → Type 0
IsInfoRead told = (info : AttrFile) × HasAttributes told.info info

-- the first of the four files that may fail, after those before it were read
abbrev pub IsSourceUnread : RepoTold → Type 0
IsSourceUnread told =
    MayFail told.index ⊎ (IsIndexRead told × MayFail told.config)
    ⊎ (IsIndexRead told × IsConfigRead told × MayFail told.info)
    ⊎ (IsIndexRead told × IsConfigRead told × IsInfoRead told × MayFail told.base)

-- the repository has this fault first once its files were read
pub record IsFaulty (told : RepoTold) (fault : PlanFault) : Type 0 where
  pub entries : List Entry
  pub settings : Settings
  pub outer : OuterFiles
  pub sources : HasSources told entries settings outer
  pub has : HasPlanFault told.object entries outer settings fault

-- the same for the attribute file with that path, and its entry's number
pub record IsFaultyFile (told : RepoTold) (path : List ℕ) (fault : ℕ → PlanFault) : Type 0 where
  pub number : ℕ
  pub faulty : IsFaulty told (fault number)
  pub entry : Entry
  pub there : slice_get faulty.entries number ≡ Some entry
  pub named : path ≡ entry.path

-- why a repository is refused before an attribute file of its index is read
abbrev pub IsSourceCause : RepoTold → Refusal → Type 0
IsSourceCause told refusal.IndexAbsent = TellsNone told.index
IsSourceCause told (refusal.Index fault) = HasIndexFault told.index fault
IsSourceCause told (refusal.Config fault) = IsIndexRead told × HasConfigFault told.config fault
IsSourceCause told (refusal.Setting fault) = IsIndexRead told × HasSettingFault told.config fault
IsSourceCause told refusal.InfoTooLarge =
    IsIndexRead told × IsConfigRead told × TellsLong told.info max_attributes
IsSourceCause told refusal.BaseTooLarge =
    IsIndexRead told × IsConfigRead told × IsInfoRead told × TellsLong told.base max_attributes
IsSourceCause told (refusal.Attribute path kind) = ⊥
IsSourceCause told (refusal.AttributeTooLarge path) = ⊥
IsSourceCause told (refusal.TooManyDrivers n) = ⊥

-- Why a repository is refused: the first cause that applies. The index is read first, then the
-- configuration, `info/attributes`, the system's and the user's attribute files, and those of the index.
abbrev pub IsCause : RepoTold → Refusal → Type 0
IsCause told (refusal.Attribute path kind) = IsFaultyFile told path (λ k. fault.Attribute k kind)
IsCause told (refusal.AttributeTooLarge path) =
    IsFaultyFile told path (λ k. fault.AttributeTooLarge k)
IsCause told (refusal.TooManyDrivers n) = IsFaulty told (fault.TooManyDrivers n)
IsCause told refusal.IndexAbsent = IsSourceCause told refusal.IndexAbsent
IsCause told (refusal.Index fault) = IsSourceCause told (refusal.Index fault)
IsCause told (refusal.Config fault) = IsSourceCause told (refusal.Config fault)
IsCause told (refusal.Setting fault) = IsSourceCause told (refusal.Setting fault)
IsCause told refusal.InfoTooLarge = IsSourceCause told refusal.InfoTooLarge
IsCause told refusal.BaseTooLarge = IsSourceCause told refusal.BaseTooLarge

-- The blobs that are made before a repository is refused for a cause: those of the attribute files, in the order of the
-- index, up to the one that is refused. None has failed.
abbrev pub blobs_before : (told : RepoTold) (r : Refusal) → IsCause told r → List (List ℕ × ℕ)
blobs_before told (refusal.Attribute path kind) cause =
    blobs_to cause.faulty.entries cause.number cause.entry 0
blobs_before told (refusal.AttributeTooLarge path) cause =
    blobs_to cause.faulty.entries cause.number cause.entry 0
blobs_before told (refusal.TooManyDrivers n) cause = blobs_of cause.entries
blobs_before told refusal.IndexAbsent cause = []
blobs_before told (refusal.Index fault) cause = []
blobs_before told (refusal.Config fault) cause = []
blobs_before told (refusal.Setting fault) cause = []
blobs_before told refusal.InfoTooLarge cause = []
blobs_before told refusal.BaseTooLarge cause = []

-- The repository is refused for this cause. Nothing failed, and just these blobs were made and given back.
pub record IsRefusedFor (told : RepoTold) (r : Refusal) (old new : RepoSeen) : Type 0 where
  pub cause : IsCause told r
  pub seen : new ≡ record old { returned = old.returned ++ blobs_before told r cause }

-- Memory ran out after the four files were read. Nothing failed, and just the blobs of the attribute files among the
-- first entries, so many, were made and given back.
pub record IsPartRead (told : RepoTold) (old new : RepoSeen) : Type 0 where
  pub entries : List Entry
  pub settings : Settings
  pub outer : OuterFiles
  pub sources : HasSources told entries settings outer
  pub count : ℕ
  pub within : count ≤ length entries
  pub seen : new ≡ record old { returned = old.returned ++ blobs_of (take count entries) }

-- Memory ran out, and nothing failed. No blob was made, or those of the first attribute files.
abbrev pub IsCutShort : RepoTold → RepoSeen → RepoSeen → Type 0
IsCutShort told old new = (new ≡ old) ⊎ IsPartRead told old new

-- how often the blobs of a list have failed
abbrev pub failed_blobs : List (List ℕ × ℕ) → ℕ
failed_blobs blobs = sum_by (λ b. b.1) blobs

-- no read of the repository failed
pub record IsRepoSteady (old new : RepoSeen) : Type 0 where
  pub faults : new.faults ≡ old.faults
  pub blobs : failed_blobs new.returned ≡ failed_blobs old.returned

-- the blob of an attribute file failed, it is the last that was given back, and nothing else failed
pub record IsUnreadFile (told : RepoTold) (old new : RepoSeen) : Type 0 where
  pub number : ℕ
  pub count : ℕ
  pub failed : 0 < count
  pub faulty : IsFaulty told (fault.AttributeRead number)
  pub entry : Entry
  pub there : slice_get faulty.entries number ≡ Some entry
  pub seen : new ≡ record old {
    returned = old.returned ++ blobs_to faulty.entries number entry count;
  }

-- one of the four files couldn't be read: the count rose, and no blob was made
pub record IsUnreadSource (told : RepoTold) (old new : RepoSeen) : Type 0 where
  pub rose : Rose old.faults new.faults
  pub unread : IsSourceUnread told
  pub seen : new ≡ record old { faults = new.faults }

-- a read failed: of one of the four files, or of an attribute file of the index
abbrev pub IsReadCause : RepoTold → RepoSeen → RepoSeen → Type 0
IsReadCause told old new = IsUnreadSource told old new ⊎ IsUnreadFile told old new

-- The plan was read. The attribute files' blobs, none of which failed, were given back.
pub record IsPlanRead (told : RepoTold) (plan : Plan) (old new : RepoSeen) : Type 0 where
  pub planned : IsPlanned told plan
  pub seen : new ≡ record old { returned = old.returned ++ blobs_of planned.entries }
