-- What an object's stored bytes contain.
use Rattle.std.specs.Prelude.{◌≡◌, ℕ, Bool, ◌&&◌, ◌==◌, not, nat_lt, if◌then◌else◌}
use Rattle.std.specs.Prelude.{List, length, take, drop, codes, position, Option, Some, None, is_some, Result, Ok, Err}
use Rattle.std.specs.Global.{Vec}
use Rattle.std.specs.List.{before_first, after_first}
use Rattle.std.specs.Str.{bytes_eq}
use Rattle.std.specs.Str.Parse.{digits_value}
use Rattle.byte_path.specs.Decimal.{is_decimal}
use Rattle.edge_kit.specs.Faults.{Rose}
use Rattle.edge_kit.specs.Told.{Told, TellsBytes, TellsNone, TellsLong, MayFail}
use Rattle.edge_kit.specs.declared.faults.TakeFault.{TakeFault}
use Rattle.edge_kit.specs.declared.faults.TakeFault.TheVariants as take
use Rattle.sha1.specs.Sha1.{sha1}
use Rattle.object_dir.specs.declared.fault.ObjectFault.{ObjectFault}
use Rattle.object_dir.specs.declared.fault.ObjectFault.TheVariants.{ReadFailed, Absent, TooLarge, Header, Size}
use Rattle.object_dir.specs.declared.fault.ObjectFault.TheVariants.{WrongName, NoMemory}
pub use Rattle.byte_path.specs.Characters.{is_nul}

-- the most stored bytes: `blob 268435456`, a NUL and 268,435,456 bytes
abbrev pub max_stored : ℕ
max_stored = 268435471

-- the text of the size and the content are on the two sides of the first NUL after `blob `
abbrev pub size_text : List ℕ → List ℕ
size_text stored = before_first is_nul (drop 5 stored)

abbrev pub content_of : List ℕ → List ℕ
content_of stored = after_first is_nul (drop 5 stored)

-- whether the stored bytes begin with `blob `, a decimal and a NUL
abbrev pub has_header : List ℕ → Bool
has_header stored =
    bytes_eq (take 5 stored) (codes "blob ") && is_some (position is_nul (drop 5 stored))
    && is_decimal (size_text stored)

-- the content of stored bytes under a name, or the first fault
unfoldable pub stored_content : List ℕ → List ℕ → Result (List ℕ) ObjectFault
stored_content stored name =
    if not (has_header stored) then Err Header
    else if not (digits_value 10 (size_text stored) == length (content_of stored)) then Err Size
    else if not (bytes_eq (sha1 stored) name) then Err (WrongName (sha1 stored))
    else Ok (content_of stored)

-- the same, within the limit
abbrev pub object_of : List ℕ → List ℕ → Result (List ℕ) ObjectFault
object_of stored name =
    if nat_lt max_stored (length stored) then Err TooLarge else stored_content stored name

-- the same, from what a blob gave within the limit
abbrev pub object_in : Result (Option (Vec ℕ)) TakeFault → List ℕ → Result (List ℕ) ObjectFault
object_in (Ok (Some stored)) name = stored_content stored.items name
object_in (Ok None) name = Err Absent
object_in (Err take.TooLong) name = Err TooLarge
object_in (Err take.Failed) name = Err ReadFailed
object_in (Err take.NoMemory) name = Err NoMemory

-- bytes that are told, if anything is, give this under the name
abbrev pub Gives : Told → List ℕ → Result (List ℕ) ObjectFault → Type 0
Gives told name answer = (stored : List ℕ) × TellsBytes told stored × (object_of stored name ≡ answer)

-- the content of the object with this name, or the first fault that applies, by what is told
abbrev pub IsObject : Told → List ℕ → Result (Vec ℕ) ObjectFault → Type 0
IsObject told name (Ok content) = Gives told name (Ok content.items)
IsObject told name (Err ReadFailed) = MayFail told
IsObject told name (Err Absent) = TellsNone told
IsObject told name (Err TooLarge) = TellsLong told max_stored
IsObject told name (Err Header) = Gives told name (Err Header)
IsObject told name (Err Size) = Gives told name (Err Size)
IsObject told name (Err (WrongName found)) = Gives told name (Err (WrongName found))
IsObject told name (Err NoMemory) = Unit {0}

-- the count of faults after a reading: it rose if the reading failed, and is as before otherwise
abbrev pub AfterRead : {T : Type 0} → ℕ → ℕ → Result T ObjectFault → Type 0
AfterRead before after (Err ReadFailed) = Rose before after
AfterRead before after answer = after ≡ before
