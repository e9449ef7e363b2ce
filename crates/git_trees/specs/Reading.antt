-- Reading a tree from left to right, up to the first fault.
use Rattle.std.specs.Prelude.{◌≡◌, ℕ, zero, suc, ◌-◌, Bool, true, ◌||◌, not, nat_eq, nat_le, List, [], ◌∷◌, ◌++◌}
use Rattle.std.specs.Prelude.{length, take, drop, position, slice_get, codes, Option, Some, None, Result, Ok, Err}
use Rattle.std.specs.Prelude.{if◌then◌else◌, ok_or, ◌==◌}
use Rattle.std.specs.List.{list_any, starts_with}
use Rattle.std.specs.Result.{result_err}
use Rattle.byte_path.specs.declared.path.PathFault.{PathFault}
use Rattle.byte_path.specs.Path.{path_fault}
use Rattle.byte_path.specs.Front.{begins}
use Rattle.byte_path.specs.Characters.{slash}
use Rattle.byte_path.specs.Steps.{GivesUnless}
pub use Rattle.byte_path.specs.Steps.{◌>>=◌, want}
use Rattle.git_trees.specs.declared.entry.TreeEntry.{TreeEntry}
use Rattle.git_trees.specs.declared.entry.TreeMode.{TreeMode}
use Rattle.git_trees.specs.declared.entry.TreeMode.TheVariants.{Plain, Executable, Link, Gitlink, Folder}
use Rattle.git_trees.specs.declared.fault.NameKind.TheVariants.{Slash, Part}
use Rattle.git_trees.specs.declared.fault.TreeFault.{TreeFault}
use Rattle.git_trees.specs.declared.fault.TreeFault.TheVariants.{Short, Mode as BadMode, Name as BadName, Order, Twice}
use Rattle.git_trees.specs.declared.fault.TreeFault.TheVariants.{Count, NoMemory}
use Rattle.git_trees.specs.Format.{is_mode, is_space, ends_name, is_below, is_same, IsTree}

-- What a function returned, seen through `view`, is what reading gives, unless memory ran out.
abbrev pub Gives : {X Y : Type 0} → (X → Y) → Result X TreeFault → Result Y TreeFault → Type 0
Gives = GivesUnless NoMemory

-- the mode that is spelled so
abbrev pub mode_at : List ℕ → Option TreeMode
mode_at digits =
    if is_mode Plain digits then Some Plain
    else if is_mode Executable digits then Some Executable
    else if is_mode Link digits then Some Link
    else if is_mode Gitlink digits then Some Gitlink
    else if is_mode Folder digits then Some Folder
    else None

-- the digits of a mode can begin so
abbrev pub begins_mode : List ℕ → Bool
begins_mode bytes =
    starts_with nat_eq (codes "100644") bytes || starts_with nat_eq (codes "100664") bytes
    || starts_with nat_eq (codes "100755") bytes || starts_with nat_eq (codes "120000") bytes
    || starts_with nat_eq (codes "160000") bytes || starts_with nat_eq (codes "40000") bytes

-- what is wrong with bytes without a space
abbrev pub mode_fault : ℕ → List ℕ → TreeFault
mode_fault k bytes = if begins_mode bytes then Short k else BadMode k

-- a name that may be written
abbrev pub want_part : {A : Type 0} → ℕ → Option PathFault → Result A TreeFault → Result A TreeFault
want_part k None r = r
want_part k (Some f) r = Err (BadName k (Part f))

-- the first byte is no slash
abbrev pub is_no_slash : List ℕ → Bool
is_no_slash tail = not (begins (λ b. b == slash) tail)

-- the entry of this mode and this name, before what ends the name, and the bytes after the entry
unfoldable pub named_at : ℕ → TreeMode → List ℕ → List ℕ → Result (TreeEntry × List ℕ) TreeFault
named_at k mode name tail =
    want (is_no_slash tail) (BadName k Slash)
    (want_part k (path_fault name)
    (want (nat_le 21 (length tail)) (Short k)
    (Ok (record { mode = mode; name = name; object = take 20 (drop 1 tail) }, drop 21 tail))))

-- the entry of this mode, before its name
unfoldable pub moded_at : ℕ → TreeMode → List ℕ → Result (TreeEntry × List ℕ) TreeFault
moded_at k mode text =
    ok_or (position ends_name text) (Short k) >>= λ n. named_at k mode (take n text) (drop n text)

-- the entry whose mode is spelled so, before the space
unfoldable pub spaced_at : ℕ → List ℕ → List ℕ → Result (TreeEntry × List ℕ) TreeFault
spaced_at k digits tail = ok_or (mode_at digits) (BadMode k) >>= λ mode. moded_at k mode (drop 1 tail)

-- the entry of this number at the front of the bytes, and the bytes after it
unfoldable pub entry_at : ℕ → List ℕ → Result (TreeEntry × List ℕ) TreeFault
entry_at k bytes =
    ok_or (position is_space bytes) (mode_fault k bytes) >>= λ n. spaced_at k (take n bytes) (drop n bytes)

-- the entry before
abbrev pub last_of : List TreeEntry → Option TreeEntry
last_of es = slice_get es (length es - 1)

-- a test of the entry before, if there is one
abbrev pub is_none_or : (TreeEntry → Bool) → Option TreeEntry → Bool
is_none_or test None = true
is_none_or test (Some e) = test e

-- an entry in its place after the earlier ones
unfoldable pub placed_at : List TreeEntry → TreeEntry → Result TreeEntry TreeFault
placed_at earlier e =
    want (is_none_or (λ b. is_below b e || is_same b e) (last_of earlier)) (Order (length earlier))
    (want (not (list_any (λ b. is_same b e) earlier)) (Twice (length earlier))
    (Ok e))

-- the entries after the earlier ones, up to the end; so many more may come
unfoldable pub entries_at : ℕ → List TreeEntry → List ℕ → Result (List TreeEntry) TreeFault
entries_at left earlier [] = Ok earlier
entries_at zero earlier (b ∷ bs) = Err (Count (length earlier))
entries_at (suc left) earlier (b ∷ bs) = do
  x ← entry_at (length earlier) (b ∷ bs)
  e ← placed_at earlier x.0
  entries_at left (earlier ++ e ∷ []) x.1

-- what the bytes are read as: the entries, or the first fault from the left
abbrev pub tree_at : ℕ → List ℕ → Result (List TreeEntry) TreeFault
tree_at limit bytes = entries_at limit [] bytes

-- the first fault from the left
abbrev pub tree_fault : ℕ → List ℕ → Option TreeFault
tree_fault limit bytes = result_err (tree_at limit bytes)

-- What a function returned is this list, or out of memory.
abbrev pub Yields : Result (List TreeEntry) TreeFault → List TreeEntry → Type 0
Yields (Ok es) list = es ≡ list
Yields (Err f) list = f ≡ NoMemory

-- A tree has no fault.
abbrev pub TreeHasNoFault : Type 0
TreeHasNoFault = (limit : ℕ) (bytes : List ℕ) (es : List TreeEntry) → IsTree limit bytes es → tree_fault limit bytes ≡ None
