-- What a blob gave, before it is checked.
use Rattle.std.specs.Prelude.{◌≡◌, ℕ, List, [], Option, Some, None, Result, Ok, Err, IfSome}
use denote.Ref.{Bor}
use Rattle.std.specs.Global.{Vec}
use Rattle.edge_kit.specs.Faults.{AfterTake}
use Rattle.edge_kit.specs.Told.{Told, Takes}
use Rattle.edge_kit.specs.declared.faults.TakeFault.{TakeFault}
use Rattle.sha1.specs.Sha1.{sha1}
use Rattle.object_dir.specs.declared.taken_blob.Taken.{Taken}
use Rattle.object_dir.specs.Object.{max_stored}

-- the stored bytes, if there are any
abbrev pub stored_in : Result (Option (Vec ℕ)) TakeFault → List ℕ
stored_in (Ok (Some stored)) = stored.items
stored_in (Ok None) = []
stored_in (Err fault) = []

abbrev pub stored_of : Option (Bor Taken) → List ℕ
stored_of None = []
stored_of (Some taken) = stored_in taken.now.stored

-- A blob that tells this gave it for the object with this name, and its count of faults is now so. The SHA-1 of the
-- stored bytes may be known.
pub record IsTaken (told : Told) (name : List ℕ) (before after : ℕ) (taken : Taken) : Type 0 where
  pub takes : Takes told max_stored taken.stored
  pub faults : AfterTake before after taken.stored
  pub named : taken.name ≡ name
  pub known : IfSome taken.known (λ found. found ≡ sha1 (stored_in taken.stored))
