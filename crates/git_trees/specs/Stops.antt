-- Why a walk gives no leaves, and what holds then.
use Rattle.std.specs.Prelude.{◌≡◌, ◌+◌, ◌<◌, ◌≤◌, ℕ, zero, suc, true, false, List, [], ◌++◌, length, Some, Result, Ok, Err, Contains}
use Rattle.byte_path.specs.declared.path.PathFault.{PathFault}
use Rattle.byte_path.specs.Path.{path_fault}
use Rattle.edge_kit.specs.Told.{Told, TellsBytes, TellsNone, TellsLong, MayFail}
use Rattle.edge_kit.specs.Faults.{Rose}
use Rattle.git_trees.specs.declared.entry.TreeEntry.{TreeEntry}
use Rattle.git_index.specs.declared.entry.Entry.{Entry}
use Rattle.git_trees.specs.declared.folder.WalkStep.{WalkStep}
use Rattle.git_trees.specs.declared.walk_fault.WalkBounds.{WalkBounds}
use Rattle.git_trees.specs.declared.walk_fault.WalkFault.{WalkFault}
use Rattle.git_trees.specs.declared.walk_fault.WalkFault.TheVariants as stop
use Rattle.git_trees.specs.declared.fault.TreeFault.{TreeFault}
use Rattle.git_trees.specs.Format.{is_folder, key, IsTree}
use Rattle.git_trees.specs.Reading.{tree_fault}
use Rattle.git_trees.specs.Walk.{TreesTold, IsNoWalk, IsAllTold, AllReach, Reaches}

-- a folder of a tree that the walk comes to, and its content
pub record IsInto (told : TreesTold) (limit : ℕ) (Above : List ℕ → List ℕ → Type 0) (folder content : List ℕ)
    : Type 0 where
  pub outer : List ℕ
  pub above : List ℕ
  pub comes : Above outer above
  pub entries : List TreeEntry
  pub tree : IsTree limit above entries
  pub entry : TreeEntry
  pub member : Contains entries entry
  pub kind : is_folder entry.mode ≡ true
  pub path : folder ≡ outer ++ key entry
  pub is_told : TellsBytes (told entry.object) content

-- The walk comes to a folder with this content, which stands in so many trees.
abbrev pub Comes : TreesTold → ℕ → List ℕ → ℕ → List ℕ → List ℕ → Type 0
Comes told limit root zero folder content = (folder ≡ []) × (content ≡ root)
Comes told limit root (suc n) folder content = IsInto told limit (λ f c. Comes told limit root n f c) folder content

-- The walk comes to an entry below a folder, which stands in so many trees.
pub record IsMet (told : TreesTold) (limit : ℕ) (root : List ℕ) (n : ℕ) (folder : List ℕ) (e : TreeEntry) : Type 0 where
  pub content : List ℕ
  pub comes : Comes told limit root n folder content
  pub entries : List TreeEntry
  pub tree : IsTree limit content entries
  pub member : Contains entries e

-- The walk comes to a folder with this path, of whose tree `Holds` says what is told.
pub record IsAtFolder (told : TreesTold) (bounds : WalkBounds) (root : List ℕ) (Holds : Told → Type 0) (path : List ℕ)
    : Type 0 where
  pub n : ℕ
  pub within : n < bounds.depth
  pub folder : List ℕ
  pub entry : TreeEntry
  pub met : IsMet told bounds.limit root n folder entry
  pub kind : is_folder entry.mode ≡ true
  pub whole : path ≡ folder ++ key entry
  pub holds : Holds (told entry.object)

-- The tree of the folder with this path has this fault.
pub record IsBroken (told : TreesTold) (bounds : WalkBounds) (root path : List ℕ) (fault : TreeFault) : Type 0 where
  pub n : ℕ
  pub within : n ≤ bounds.depth
  pub content : List ℕ
  pub comes : Comes told bounds.limit root n path content
  pub first : tree_fault bounds.limit content ≡ Some fault

-- The folder with this path stands in too many trees.
pub record IsDeep (told : TreesTold) (bounds : WalkBounds) (root path : List ℕ) : Type 0 where
  pub folder : List ℕ
  pub entry : TreeEntry
  pub met : IsMet told bounds.limit root bounds.depth folder entry
  pub kind : is_folder entry.mode ≡ true
  pub whole : path ≡ folder ++ key entry

-- The leaf with this path may not be written.
pub record IsBadPath (told : TreesTold) (bounds : WalkBounds) (root path : List ℕ) (fault : PathFault) : Type 0 where
  pub n : ℕ
  pub within : n ≤ bounds.depth
  pub folder : List ℕ
  pub entry : TreeEntry
  pub met : IsMet told bounds.limit root n folder entry
  pub kind : is_folder entry.mode ≡ false
  pub whole : path ≡ folder ++ entry.name
  pub fault_is : path_fault path ≡ Some fault

-- The fault of a walk is where it says.
abbrev pub IsStop : TreesTold → WalkBounds → List ℕ → WalkFault → Type 0
IsStop told bounds root (stop.Absent path) = IsAtFolder told bounds root TellsNone path
IsStop told bounds root (stop.Failed path) = IsAtFolder told bounds root MayFail path
IsStop told bounds root (stop.TooLong path) = IsAtFolder told bounds root (λ t. TellsLong t bounds.bytes) path
IsStop told bounds root (stop.Tree path fault) = IsBroken told bounds root path fault
IsStop told bounds root (stop.Deep path) = IsDeep told bounds root path
IsStop told bounds root (stop.Path path fault) = IsBadPath told bounds root path fault
IsStop told bounds root stop.Count = IsAllTold told → IsNoWalk told bounds.limit bounds.depth root
IsStop told bounds root stop.NoMemory = Unit {0}

-- a fault that says nothing of the leaves
abbrev pub IsFree : WalkFault → Type 0
IsFree (stop.TooLong path) = Unit {0}
IsFree stop.NoMemory = Unit {0}
IsFree fault = ⊥

-- What a walk returned is these leaves, unless memory ran out or a tree has too many bytes.
abbrev pub YieldsLeaves : Result (List Entry) WalkFault → List Entry → Type 0
YieldsLeaves (Ok xs) leaves = xs ≡ leaves
YieldsLeaves (Err f) leaves = IsFree f

abbrev pub AfterStop : ℕ → ℕ → WalkFault → Type 0
AfterStop before after (stop.Failed path) = Rose before after
AfterStop before after fault = after ≡ before

-- What a walk does to the count of faults: it rises if taking a tree failed, and stays otherwise.
abbrev pub AfterWalk : {T : Type 0} → ℕ → ℕ → Result T WalkFault → Type 0
AfterWalk before after (Ok x) = after ≡ before
AfterWalk before after (Err f) = AfterStop before after f

-- Why the tree of this folder isn't read.
abbrev pub IsTreeStop : ℕ → List ℕ → List ℕ → WalkFault → Type 0
IsTreeStop limit folder content (stop.Tree path fault) = (path ≡ folder) × (tree_fault limit content ≡ Some fault)
IsTreeStop limit folder content stop.NoMemory = Unit {0}
IsTreeStop limit folder content fault = ⊥

-- Why the leaf of this entry isn't taken, after so many others.
abbrev pub IsLeafStop : ℕ → ℕ → List ℕ → TreeEntry → WalkFault → Type 0
IsLeafStop limit count folder e (stop.Path path fault) = (path ≡ folder ++ e.name) × (path_fault path ≡ Some fault)
IsLeafStop limit count folder e stop.Count = limit ≤ count
IsLeafStop limit count folder e stop.NoMemory = Unit {0}
IsLeafStop limit count folder e fault = ⊥

-- Why the content of a folder's tree isn't taken, by what is told of it.
abbrev pub IsAskStop : Told → ℕ → List ℕ → WalkFault → Type 0
IsAskStop told bytes folder (stop.Absent path) = (path ≡ folder) × TellsNone told
IsAskStop told bytes folder (stop.TooLong path) = (path ≡ folder) × TellsLong told bytes
IsAskStop told bytes folder (stop.Failed path) = (path ≡ folder) × MayFail told
IsAskStop told bytes folder stop.NoMemory = Unit {0}
IsAskStop told bytes folder fault = ⊥

-- Why the folder of this entry isn't opened.
abbrev pub IsOpenStop : TreesTold → WalkStep → List ℕ → TreeEntry → WalkFault → Type 0
IsOpenStop told step folder e (stop.Absent path) =
    (0 < step.left) × (path ≡ folder ++ key e) × TellsNone (told e.object)
IsOpenStop told step folder e (stop.TooLong path) =
    (0 < step.left) × (path ≡ folder ++ key e) × TellsLong (told e.object) step.bounds.bytes
IsOpenStop told step folder e (stop.Failed path) =
    (0 < step.left) × (path ≡ folder ++ key e) × MayFail (told e.object)
IsOpenStop told step folder e (stop.Deep path) = (step.left ≡ 0) × (path ≡ folder ++ key e)
IsOpenStop told step folder e stop.NoMemory = Unit {0}
IsOpenStop told step folder e fault = ⊥

-- The leaves of a folder with this content are taken after the earlier ones, and are no more than the limit.
pub record IsReached (told : TreesTold) (step : WalkStep) (folder content : List ℕ) (old new : List Entry)
    : Type 0 where
  pub entries : List TreeEntry
  pub tree : IsTree step.bounds.limit content entries
  pub more : List Entry
  pub grown : new ≡ old ++ more
  pub reach : AllReach (λ f x xs. Reaches told step.bounds.limit step.left f x xs) folder entries more
  pub few : length new ≤ step.bounds.limit

-- From a folder that the walk comes to, it stops where its fault says.
abbrev pub IsStopBelow : TreesTold → WalkStep → List ℕ → List ℕ → WalkFault → Type 0
IsStopBelow told step folder content f = (root : List ℕ) (n : ℕ) → n + step.left ≡ step.bounds.depth
    → Comes told step.bounds.limit root n folder content → IsStop told step.bounds root f

-- A folder has more leaves than may come after so many others.
abbrev pub IsOver : TreesTold → WalkStep → List ℕ → List ℕ → ℕ → Type 0
IsOver told step folder content count = (es : List TreeEntry) (xs : List Entry) → IsTree step.bounds.limit content es
    → AllReach (λ f x ys. Reaches told step.bounds.limit step.left f x ys) folder es xs
    → step.bounds.limit < count + length xs

-- Where a walk stops, no list of leaves is that of the root, if all is told.
abbrev pub StopsEndWalks : Type 0
StopsEndWalks = (told : TreesTold) (bounds : WalkBounds) (root : List ℕ) (f : WalkFault) → IsAllTold told
    → IsStop told bounds root f → (IsFree f → ⊥) → IsNoWalk told bounds.limit bounds.depth root
