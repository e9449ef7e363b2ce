-- What is told of a file or an object settles what it holds. The forms in memory tell all.
use Rattle.std.proofs.Common.{Option, [], Bool, true, false, if◌then◌else◌, map, ◌∷◌, ◌≡◌, ℕ, List, length, Some, None, Result, Err, refl, sym, ap, ◌∙◌, inl, inr}
use Rattle.std.proofs.lemmas.Bool.{lt-ltb}
use Rattle.std.specs.Global.{Vec}
use Rattle.std.specs.Str.{bytes_eq}
use Rattle.edge_kit.specs.Memory.{file_told, first_object, fails_with}
use Rattle.edge_kit.specs.MemoryDrivers.{start_told, sessions_for}
use Rattle.edge_kit.specs.declared.memory_repo.RepoFail.TheVariants as fail
use Rattle.edge_kit.specs.Told.{Told, Raw, Absent, Failing, Untold, TellsBytes, TellsNone, TellsLong, MayFail}
use Rattle.object_dir.specs.Object.{Gives, IsObject, object_of, max_stored}
use Rattle.object_dir.specs.declared.fault.ObjectFault.{ObjectFault}
use Rattle.object_dir.specs.declared.fault.ObjectFault.TheVariants as object
use Rattle.checkout_core.specs.declared.verdict.ObjectKind.{ObjectKind}
use Rattle.checkout_plan.specs.Making.{FitsKind, object_kind}
use Rattle.checkout_engine.specs.Alike.{IsTold, MemoryTellsAll}
use Rattle.checkout_sources.specs.Sources.{HasBytes}

pub same_told : (told : Told) (x y : List ℕ) → IsTold told → TellsBytes told x → TellsBytes told y → x ≡ y
same_told (Raw raw) x y is a b = a ∙ sym b
same_told Absent x y is a b = absurd a
same_told Failing x y is a b = absurd a
same_told Untold x y is a b = absurd is

bytes_or_none : (told : Told) (x : List ℕ) → IsTold told → TellsBytes told x → TellsNone told → ⊥
bytes_or_none (Raw raw) x is a b = b
bytes_or_none Absent x is a b = a
bytes_or_none Failing x is a b = a
bytes_or_none Untold x is a b = is

pub same_bytes : (told : Told) (x y : List ℕ) → IsTold told → HasBytes told x → HasBytes told y → x ≡ y
same_bytes told x y is (inl a) (inl b) = same_told told x y is a b
same_bytes told x y is (inl a) (inr b) = absurd (bytes_or_none told x is a b.0)
same_bytes told x y is (inr a) (inl b) = absurd (bytes_or_none told y is b a.0)
same_bytes told x y is (inr a) (inr b) = a.1 ∙ sym b.1

-- what an object holds, by what is told of it
abbrev pub found_of : Told → List ℕ → Result (List ℕ) ObjectFault
found_of (Raw raw) name = object_of raw name
found_of Absent name = Err object.Absent
found_of Failing name = Err object.ReadFailed
found_of Untold name = Err object.NoMemory

pub gives_found : (told : Told) (name : List ℕ) (r : Result (List ℕ) ObjectFault) → IsTold told → Gives told name r → found_of told name ≡ r
gives_found (Raw raw) name r is g = ap (λ (stored : List ℕ). object_of stored name) (sym g.1) ∙ g.2
gives_found Absent name r is g = absurd g.1
gives_found Failing name r is g = absurd g.1
gives_found Untold name r is g = absurd is

pub fails_found : (told : Told) (name : List ℕ) → IsTold told → MayFail told → found_of told name ≡ Err object.ReadFailed
fails_found (Raw raw) name is may = absurd may
fails_found Absent name is may = absurd may
fails_found Failing name is may = refl
fails_found Untold name is may = absurd is

none_found : (told : Told) (name : List ℕ) → IsTold told → TellsNone told → found_of told name ≡ Err object.Absent
none_found (Raw raw) name is none = absurd none
none_found Absent name is none = refl
none_found Failing name is none = absurd none
none_found Untold name is none = absurd is

long_found : (told : Told) (name : List ℕ) → IsTold told → TellsLong told max_stored → found_of told name ≡ Err object.TooLarge
long_found (Raw raw) name is long = rw (lt-ltb max_stored (length raw) long) refl
long_found Absent name is long = absurd long
long_found Failing name is long = absurd long
long_found Untold name is long = absurd is

fault_found : (told : Told) (name : List ℕ) (k : ObjectKind) (f : ObjectFault) → IsTold told → object_kind f ≡ Some k → IsObject told name (Err f) → found_of told name ≡ Err f
fault_found told name k object.ReadFailed is kind has = let no : None ≡ Some k = kind in absurd cc
fault_found told name k object.NoMemory is kind has = let no : None ≡ Some k = kind in absurd cc
fault_found told name k object.Absent is kind has = none_found told name is has
fault_found told name k object.TooLarge is kind has = long_found told name is has
fault_found told name k object.Header is kind has = gives_found told name (Err object.Header) is has
fault_found told name k object.Size is kind has = gives_found told name (Err object.Size) is has
fault_found told name k (object.WrongName found) is kind has = gives_found told name (Err (object.WrongName found)) is has

-- what is wrong with an object that is told is its fault
pub kind_found : (told : Told) (name : List ℕ) (k : ObjectKind) → IsTold told → FitsKind told name k → (f : ObjectFault) × (found_of told name ≡ Err f) × (object_kind f ≡ Some k)
kind_found told name k is has = (has.fault, fault_found told name k has.fault is has.is has.fits, has.is)

-- the forms in memory tell all
file_is_told : (fails : Bool) (content : Option (Vec ℕ)) → IsTold (file_told fails content)
file_is_told true content = tt
file_is_told false None = tt
file_is_told false (Some v) = tt

first_is_told : (objects : List (List ℕ × Vec ℕ)) (name : List ℕ) → IsTold (first_object objects name)
first_is_told [] name = tt
first_is_told (o ∷ os) name = by (bytes_eq o.0 name) (first_is_told os name)
  where
    by : (b : Bool) → IsTold (first_object os name) → IsTold (if b then Raw (o.1).items else first_object os name)
    by true more = tt
    by false more = more

object_is_told : (fails : Bool) (objects : List (List ℕ × Vec ℕ)) (name : List ℕ) → IsTold (if fails then Failing else first_object objects name)
object_is_told true objects name = tt
object_is_told false objects name = first_is_told objects name

pub memory_told : MemoryTellsAll
memory_told index config info base objects fails scripts = record {
  repo = record {
    index = file_is_told (fails_with fail.Index fails) index;
    config = file_is_told (fails_with fail.Config fails) config;
    info = file_is_told (fails_with fail.Info fails) info;
    base = file_is_told (fails_with fail.Base fails) base;
    object = λ name. object_is_told (fails_with (fail.Object name) fails) objects name;
  };
  starts = λ command. (map start_told (sessions_for scripts command), refl);
}
