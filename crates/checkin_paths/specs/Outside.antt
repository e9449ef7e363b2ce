-- What is seen of a worktree's files, of the drivers and of a keeper, and how their calls change that.
use Rattle.std.specs.Prelude.{◌≡◌, ℕ, Bool, true, false, List, [], ◌∷◌, ◌++◌, Option, Some, Result, Ok, Err}
use Rattle.std.specs.Option.{option_map}
use Rattle.edge_kit.specs.Faults.{Rose}
use Rattle.clean_drivers.specs.Drivers.{DriversSeen}
use Rattle.edge_kit.specs.declared.faults.TakeFault.{TakeFault}
use Rattle.edge_kit.specs.declared.faults.TakeFault.TheVariants as take
use Rattle.edge_kit.specs.declared.faults.SendFault.{SendFault}
use Rattle.edge_kit.specs.declared.faults.SendFault.TheVariants as send

-- How often files have failed, and at which paths, in order; whether the last of these failed by the kind of its file,
-- and all that did, in order.
pub record FilesSeen : Type 0 where
  pub faults : ℕ
  pub failed : List (List ℕ)
  pub by_kind : Bool
  pub of_other_kind : List (List ℕ)

abbrev pub no_files_failed : FilesSeen
no_files_failed = record { faults = 0; failed = []; by_kind = false; of_other_kind = [] }

-- the path, if it failed by the kind of its file
abbrev pub path_if : Bool → List ℕ → List (List ℕ)
path_if true path = path ∷ []
path_if false path = []

-- what is seen of the files, and of the drivers
pub record WorkSeen : Type 0 where
  pub files : FilesSeen
  pub drivers : DriversSeen

abbrev pub work_seen : FilesSeen → DriversSeen → WorkSeen
work_seen files drivers = record { files = files; drivers = drivers }

-- The objects that were kept, in order, each with its name, and the last index, if there is one, each if it is told;
-- and how often the keeper has failed.
pub record KeepSeen : Type 0 where
  pub objects : Option (List (List ℕ × List ℕ))
  pub index : Option (Option (List ℕ))
  pub faults : ℕ

-- the files failed at a path: the count rose, and the path stands behind those before, also among those of another
-- kind if it failed by that
pub record AreFailedAt (path : List ℕ) (old new : FilesSeen) : Type 0 where
  pub paths : new.failed ≡ old.failed ++ path ∷ []
  pub rose : Rose old.faults new.faults
  pub kinds : new.of_other_kind ≡ old.of_other_kind ++ path_if new.by_kind path

-- a call that fails adds its path, and any other one leaves the files as they were
abbrev pub LeavesFiles : {T : Type 0} → List ℕ → FilesSeen → FilesSeen → Result T TakeFault → Type 0
LeavesFiles path old new (Ok x) = new ≡ old
LeavesFiles path old new (Err take.TooLong) = new ≡ old
LeavesFiles path old new (Err take.Failed) = AreFailedAt path old new
LeavesFiles path old new (Err take.NoMemory) = new ≡ old

-- a keeper with these objects after those that it has
abbrev pub with_objects : List (List ℕ × List ℕ) → KeepSeen → KeepSeen
with_objects more keep = record keep { objects = option_map (λ kept. kept ++ more) keep.objects }

-- a keeper with this index in place of the one that it has
abbrev pub with_index : List ℕ → KeepSeen → KeepSeen
with_index bytes keep = record keep { index = option_map (λ last. Some bytes) keep.index }

-- the keeper failed, and keeps what it kept
pub record IsKeepFailed (old new : KeepSeen) : Type 0 where
  pub same : new ≡ record old { faults = new.faults }
  pub rose : Rose old.faults new.faults

-- an object was kept, or nothing has changed but the count of a keeper that failed
abbrev pub KeepsObject : {T : Type 0} → List ℕ → List ℕ → KeepSeen → KeepSeen → Result T SendFault → Type 0
KeepsObject name raw old new (Ok x) = new ≡ with_objects ((name, raw) ∷ []) old
KeepsObject name raw old new (Err send.Failed) = IsKeepFailed old new
KeepsObject name raw old new (Err send.NoMemory) = new ≡ old

-- the same for an index
abbrev pub KeepsIndex : {T : Type 0} → List ℕ → KeepSeen → KeepSeen → Result T SendFault → Type 0
KeepsIndex bytes old new (Ok x) = new ≡ with_index bytes old
KeepsIndex bytes old new (Err send.Failed) = IsKeepFailed old new
KeepsIndex bytes old new (Err send.NoMemory) = new ≡ old
