-- What a root tree reaches: the paths of its files, as an index has them.
use Rattle.std.specs.Prelude.{◌≡◌, ◌≢◌, ◌≤◌, ◌⊎◌, ℕ, zero, suc, true, false, length}
use Rattle.std.specs.Prelude.{List, [], ◌∷◌, ◌++◌, None}
use Rattle.byte_path.specs.Path.{path_fault}
use Rattle.edge_kit.specs.Told.{Told, TellsBytes}
use Rattle.edge_kit.specs.Told.Told.{Untold}
use Rattle.git_trees.specs.declared.entry.TreeEntry.{TreeEntry}
use Rattle.git_index.specs.declared.entry.Entry.{Entry}
use Rattle.git_index.specs.declared.entry.Mode.{Mode}
use Rattle.git_index.specs.declared.entry.Mode.TheVariants as file
use Rattle.git_index.specs.Spelling.{CanStand}
use Rattle.git_trees.specs.declared.entry.TreeMode.{TreeMode}
use Rattle.git_trees.specs.declared.entry.TreeMode.TheVariants as tree
use Rattle.git_trees.specs.Format.{is_folder, key, IsTree}

-- the mode of an entry in an index (no leaf is a folder)
abbrev pub leaf_mode : TreeMode → Mode
leaf_mode tree.Plain = file.Plain
leaf_mode tree.Executable = file.Executable
leaf_mode tree.Link = file.Link
leaf_mode mode = file.Gitlink

-- the leaf of an entry below a folder, whose path is empty or ends in a slash
abbrev pub leaf_of : List ℕ → TreeEntry → Entry
leaf_of folder e = record {
  path = folder ++ e.name;
  stage = 0;
  mode = leaf_mode e.mode;
  name = e.object;
  sparse = false;
  intent = false;
}

-- what is told of the tree with each name
abbrev pub TreesTold : Type 0
TreesTold = List ℕ → Told

-- Something is told of each.
abbrev pub IsAllTold : TreesTold → Type 0
IsAllTold told = (name : List ℕ) → told name ≢ Untold

-- the leaves of entries one after another, where `Below` says which those of one entry are
abbrev pub AllReach : (List ℕ → TreeEntry → List Entry → Type 0) → List ℕ → List TreeEntry → List Entry → Type 0
AllReach Below folder [] leaves = leaves ≡ []
AllReach Below folder (e ∷ es) leaves =
    (first : List Entry) × (others : List Entry) × (leaves ≡ first ++ others)
    × Below folder e first × AllReach Below folder es others

-- an entry that is no folder is one leaf, a gitlink too; its path may be written
pub record IsLeaf (folder : List ℕ) (e : TreeEntry) (leaves : List Entry) : Type 0 where
  pub kind : is_folder e.mode ≡ false
  pub path : path_fault (folder ++ e.name) ≡ None
  pub one : leaves ≡ leaf_of folder e ∷ []

-- a folder reaches what the entries of its tree reach
pub record IsInner (told : TreesTold) (limit : ℕ) (Below : List ℕ → TreeEntry → List Entry → Type 0) (folder : List ℕ)
    (e : TreeEntry) (leaves : List Entry) : Type 0 where
  pub kind : is_folder e.mode ≡ true
  pub content : List ℕ
  pub is_told : TellsBytes (told e.object) content
  pub entries : List TreeEntry
  pub tree : IsTree limit content entries
  pub reach : AllReach Below (folder ++ key e) entries leaves

-- the leaves of an entry below a folder, through so many levels of trees
abbrev pub Reaches : TreesTold → ℕ → ℕ → List ℕ → TreeEntry → List Entry → Type 0
Reaches told limit zero folder e leaves = IsLeaf folder e leaves
Reaches told limit (suc depth) folder e leaves =
    IsLeaf folder e leaves ⊎ IsInner told limit (λ f x xs. Reaches told limit depth f x xs) folder e leaves

-- These are the leaves of a root tree, at most `limit`, where each tree has at most `limit` entries and no more than
-- `depth` trees stand in one another below the root.
pub record EntriesOf (told : TreesTold) (limit depth : ℕ) (root : List ℕ) (leaves : List Entry) : Type 0 where
  pub entries : List TreeEntry
  pub tree : IsTree limit root entries
  pub reach : AllReach (λ f x xs. Reaches told limit depth f x xs) [] entries leaves
  pub few : length leaves ≤ limit

-- No list of leaves is that of a root tree.
abbrev pub IsNoWalk : TreesTold → ℕ → ℕ → List ℕ → Type 0
IsNoWalk told limit depth root = (leaves : List Entry) → EntriesOf told limit depth root leaves → ⊥

-- At most one list of leaves belongs to a root tree, where all is told.
abbrev pub OneWalk : Type 0
OneWalk = (told : TreesTold) (limit depth : ℕ) (root : List ℕ) (xs ys : List Entry) → IsAllTold told
    → EntriesOf told limit depth root xs → EntriesOf told limit depth root ys → xs ≡ ys

-- The leaves of a root tree can stand in an index, if they are as few as one may have.
abbrev pub LeavesCanStand : Type 0
LeavesCanStand = (told : TreesTold) (limit depth : ℕ) (root : List ℕ) (leaves : List Entry)
    → EntriesOf told limit depth root leaves → length leaves ≤ 100000 → CanStand leaves
