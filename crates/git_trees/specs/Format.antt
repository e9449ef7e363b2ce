-- What a tree object is, byte by byte: entries one after another, in git's order.
use Rattle.std.specs.Prelude.{◌≡◌, ℕ, ◌≤◌, Bool, true, false, ◌||◌, not, List, [], ◌∷◌, ◌++◌, length, map, codes}
use Rattle.std.specs.Prelude.{None, ◌==◌}
use Rattle.std.specs.List.{flat_map, list_all, AllByRecursion}
use Rattle.std.specs.Str.{bytes_eq}
use Rattle.byte_path.specs.Path.{path_fault}
use Rattle.byte_path.specs.Characters.{slash}
pub use Rattle.git_index.specs.Spelling.{is_before, pairwise}
use Rattle.git_trees.specs.declared.entry.TreeEntry.{TreeEntry}
use Rattle.git_trees.specs.declared.entry.TreeMode.{TreeMode}
use Rattle.git_trees.specs.declared.entry.TreeMode.TheVariants.{Plain, Executable, Link, Gitlink, Folder}

-- the digits in octal that may spell a mode; old trees have 100664 for a plain file
abbrev pub is_mode : TreeMode → List ℕ → Bool
is_mode Plain digits = bytes_eq digits (codes "100644") || bytes_eq digits (codes "100664")
is_mode Executable digits = bytes_eq digits (codes "100755")
is_mode Link digits = bytes_eq digits (codes "120000")
is_mode Gitlink digits = bytes_eq digits (codes "160000")
is_mode Folder digits = bytes_eq digits (codes "40000")

abbrev pub is_space : ℕ → Bool
is_space b = b == 32

-- no name holds a NUL or a slash
abbrev pub ends_name : ℕ → Bool
ends_name b = (b == 0) || (b == slash)

abbrev pub is_name_byte : ℕ → Bool
is_name_byte b = not (ends_name b)

-- an entry, and the digits of its mode
pub record Written : Type 0 where
  pub digits : List ℕ
  pub entry : TreeEntry

-- the bytes of an entry: the mode, a space, the name, a NUL and the name of the object
abbrev pub spelled : Written → List ℕ
spelled w = w.digits ++ 32 ∷ (w.entry.name ++ 0 ∷ w.entry.object)

-- an entry that may be spelled like this: as the only part of a path its name may be written
pub record IsWritten (w : Written) : Type 0 where
  pub digits : is_mode w.entry.mode w.digits ≡ true
  pub name : path_fault w.entry.name ≡ None
  pub plain : list_all is_name_byte w.entry.name ≡ true
  pub object : length w.entry.object ≡ 20

abbrev pub is_folder : TreeMode → Bool
is_folder Folder = true
is_folder mode = false

-- what the order goes by: the name, and for a folder a slash after it
abbrev pub key_of : Bool → List ℕ → List ℕ
key_of true name = name ++ slash ∷ []
key_of false name = name

abbrev pub key : TreeEntry → List ℕ
key e = key_of (is_folder e.mode) e.name

-- one entry belongs before another
abbrev pub is_below : TreeEntry → TreeEntry → Bool
is_below e f = is_before (key e) (key f)

-- two entries have one name, also if one is a folder and the other isn't
abbrev pub is_same : TreeEntry → TreeEntry → Bool
is_same e f = bytes_eq e.name f.name

abbrev pub is_other : TreeEntry → TreeEntry → Bool
is_other e f = not (is_same e f)

-- The bytes are a tree with these entries, which are no more than the limit.
pub record IsTree (limit : ℕ) (bytes : List ℕ) (entries : List TreeEntry) : Type 0 where
  pub written : List Written
  pub spelled_so : bytes ≡ flat_map spelled written
  pub same : map (λ w. w.entry) written ≡ entries
  pub fit : AllByRecursion IsWritten written
  pub few : length entries ≤ limit
  pub rising : pairwise is_below entries ≡ true
  pub apart : pairwise is_other entries ≡ true

-- No list of entries stands for the bytes.
abbrev pub IsNoTree : ℕ → List ℕ → Type 0
IsNoTree limit bytes = (entries : List TreeEntry) → IsTree limit bytes entries → ⊥

-- At most one list of entries stands for bytes.
abbrev pub OneTree : Type 0
OneTree = (m n : ℕ) (bytes : List ℕ) (es fs : List TreeEntry) → IsTree m bytes es → IsTree n bytes fs → es ≡ fs
