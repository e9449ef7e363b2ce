-- What a tree cache tells of each folder (gitformat-index(5), "Cache tree").
use Rattle.std.specs.Prelude.{◌≡◌, ℕ, zero, suc, ◌+◌, Bool, true, false, ◌&&◌, not, ◌==◌, nat_eq, nat_le, List, [], ◌∷◌, ◌++◌}
use Rattle.std.specs.Prelude.{length, take, drop, position, codes, Option, Some, None, unwrap_or}
use Rattle.std.specs.List.{list_all, starts_with, flat_map}
use Rattle.std.specs.List.Sorted.{IsPermutation, IsSortedBy}
use Rattle.std.specs.Ordering.{nat_cmp, ordering_then, is_lt}
use Rattle.std.specs.Cmp.Lexicographic.{slice_cmp}
use Rattle.std.specs.Fmt.{decimal}
use Rattle.std.specs.Global.{Vec}
use Rattle.sha1.specs.Sha1.{sha1}
use Rattle.byte_path.specs.Characters.{slash}
use Rattle.git_index.specs.declared.entry.Entry.{Entry}
use Rattle.git_index.specs.declared.entry.Mode.{Mode}
use Rattle.git_index.specs.declared.entry.Mode.TheVariants.{Plain, Executable, Link, Gitlink}
use Rattle.tree_cache.specs.declared.folder.Folder.{Folder}
use Rattle.tree_cache.specs.declared.cache.TreeCache.{TreeCache}

abbrev pub is_slash : ℕ → Bool
is_slash b = b == slash

-- the mode of a file as a tree spells it
abbrev pub mode_text : Mode → List ℕ
mode_text Plain = codes "100644"
mode_text Executable = codes "100755"
mode_text Link = codes "120000"
mode_text Gitlink = codes "160000"

-- one entry of a tree: the mode, a space, the name, a NUL and the name of the object
abbrev pub tree_line : List ℕ → List ℕ → List ℕ → List ℕ
tree_line mode name object = mode ++ 32 ∷ (name ++ 0 ∷ object)

-- the stored bytes of a tree
abbrev pub spelled_tree : List ℕ → List ℕ
spelled_tree content = codes "tree " ++ decimal (length content) ++ 0 ∷ content

-- what is told of one folder: its name, a NUL, how many entries stand below it, a space, how many folders stand in it, LF
-- and the name of its tree
abbrev pub node_line : List ℕ → ℕ → ℕ → List ℕ → List ℕ
node_line name entries subfolders tree =
    name ++ 0 ∷ (decimal entries ++ 32 ∷ (decimal subfolders ++ 10 ∷ tree))

-- what is told of a folder with this name and so many entries, and of all folders below it
abbrev pub node : List ℕ → ℕ → Folder → List ℕ
node name entries folder = node_line name entries folder.subfolders folder.tree ++ folder.below.items

-- What is told of a subfolder, beside the length of its name.
abbrev pub Node : Type 0
Node = ℕ × Vec ℕ

-- what is told of folders, one after another
abbrev pub nodes_text : List Node → List ℕ
nodes_text = flat_map (λ n. n.1.items)

-- Git's order of the folders in a folder: by the lengths of their names, and then by their bytes.
abbrev pub is_before : Node → Node → Bool
is_before m n = is_lt (ordering_then (nat_cmp m.0 n.0) (slice_cmp nat_cmp m.1.items n.1.items))

-- A folder has a tree with this content, and these are its subfolders.
pub record IsFolder (content : List ℕ) (nodes : List Node) (folder : Folder) : Type 0 where
  pub tree : folder.tree ≡ sha1 (spelled_tree content)
  pub subfolders : folder.subfolders ≡ length nodes
  pub ordered : List Node
  pub same : IsPermutation nodes ordered
  pub order : IsSortedBy is_before ordered
  pub below : folder.below.items ≡ nodes_text ordered

-- what stands of an entry's path behind a folder's path of this length
abbrev pub rest : ℕ → Entry → List ℕ
rest at e = drop at e.path

-- the entry doesn't stand in the subfolder with this name and slash
abbrev pub is_apart : ℕ → List ℕ → Entry → Bool
is_apart at name e = not (starts_with nat_eq (rest at e) name)

-- how many entries at the front stand in it
abbrev pub run_length : ℕ → List ℕ → List Entry → ℕ
run_length at name es = unwrap_or (position (is_apart at name) es) (length es)

-- The first entry is a file, which the tree has under its name. `Then` says what becomes of the others.
pub record IsFile (Then : List Entry → List ℕ → List Node → Type 0) (at : ℕ) (e : Entry) (es : List Entry)
    (content : List ℕ) (nodes : List Node) : Type 0 where
  pub more : List ℕ
  pub line : content ≡ tree_line (mode_text e.mode) (rest at e) e.name ++ more
  pub others : Then es more nodes

-- So many entries at the front stand in a subfolder, whose name ends here. The tree has it with its own tree.
pub record IsSubfolder (Below : ℕ → List Entry → Folder → Type 0) (Then : List Entry → List ℕ → List Node → Type 0)
    (at ends count : ℕ) (e : Entry) (es : List Entry) (content : List ℕ) (nodes : List Node) : Type 0 where
  pub folder : Folder
  pub below : Below (at + ends + 1) (take count es) folder
  pub more : List ℕ
  pub line : content ≡ tree_line (codes "40000") (take ends (rest at e)) folder.tree ++ more
  pub first : Node
  pub size : first.0 ≡ ends
  pub told : first.1.items ≡ node (take ends (rest at e)) count folder
  pub others : List Node
  pub nodes_are : nodes ≡ first ∷ others
  pub then : Then (drop count es) more others

-- what the first entries are, by where the first one's name ends if it is that of a subfolder
abbrev pub Begins : (ℕ → List Entry → Folder → Type 0) → (List Entry → List ℕ → List Node → Type 0) → ℕ → Option ℕ
    → Entry → List Entry → List ℕ → List Node → Type 0
Begins Below Then at None e es content nodes = IsFile Then at e es content nodes
Begins Below Then at (Some ends) e es content nodes =
    IsSubfolder Below Then at ends (1 + run_length at (take (ends + 1) (rest at e)) es) e (e ∷ es) content nodes

-- The entries of a folder, whose path has this length, are so many in its tree, which has this content and these
-- subfolders. `Below` says what is told of one.
abbrev pub AreIn : (ℕ → List Entry → Folder → Type 0) → ℕ → ℕ → List Entry → List ℕ → List Node → Type 0
AreIn Below at zero [] content nodes = (content ≡ []) × (nodes ≡ [])
AreIn Below at zero (e ∷ es) content nodes = ⊥
AreIn Below at (suc n) [] content nodes = ⊥
AreIn Below at (suc n) (e ∷ es) content nodes =
    Begins Below (λ xs c ns. AreIn Below at n xs c ns) at (position is_slash (rest at e)) e es content nodes

-- A folder, whose path has this length, has just these entries.
pub record IsOf (Below : ℕ → List Entry → Folder → Type 0) (at : ℕ) (es : List Entry) (folder : Folder) : Type 0 where
  pub count : ℕ
  pub content : List ℕ
  pub nodes : List Node
  pub parts : AreIn Below at count es content nodes
  pub made : IsFolder content nodes folder

-- the same, where fewer than so many folders stand in one another
abbrev pub IsCached : ℕ → ℕ → List Entry → Folder → Type 0
IsCached zero at es folder = ⊥
IsCached (suc n) at es folder = IsOf (λ a xs f. IsCached n a xs f) at es folder

-- an entry that a tree has: neither unmerged nor only to be added, and with a path as short as that of a file
abbrev pub is_cached_entry : Entry → Bool
is_cached_entry e = (e.stage == 0) && not e.intent && nat_le (length e.path) 4096

-- The tree cache of entries.
pub record IsTreeCache (es : List Entry) (cache : TreeCache) : Type 0 where
  pub folder : Folder
  pub root_is : IsCached 4097 0 es folder
  pub root : cache.root ≡ folder.tree
  pub text : cache.text.items ≡ node [] (length es) folder

-- Entries have a tree cache if a tree can have each.
abbrev pub GivesCache : List Entry → Option TreeCache → Type 0
GivesCache es None = list_all is_cached_entry es ≡ false
GivesCache es (Some cache) = (list_all is_cached_entry es ≡ true) × IsTreeCache es cache
