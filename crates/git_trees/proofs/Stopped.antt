-- Where a walk stops, no list of leaves is that of the root.
use Rattle.std.proofs.Common.{◌≡◌, ℕ, zero, suc, ◌+◌, ◌-◌, ◌<◌, true, false, List, [], ◌∷◌, ◌++◌, length, None, Some, refl, sym, ap, subst, ◌∙◌, arith, inl, inr}
use Rattle.std.specs.Prelude.{Contains, slice_index_or}
use Rattle.std.specs.Result.{result_err}
use Rattle.byte_path.specs.declared.path.PathFault.{PathFault}
use Rattle.byte_path.specs.Path.{path_fault}
use Rattle.edge_kit.specs.Told.{Told, TellsBytes, TellsNone, MayFail}
use Rattle.edge_kit.specs.Told.Told.{Raw, Absent, Failing, Untold}
use Rattle.git_trees.specs.declared.entry.TreeEntry.{TreeEntry}
use Rattle.git_trees.specs.declared.fault.TreeFault.{TreeFault}
use Rattle.git_index.specs.declared.entry.Entry.{Entry}
use Rattle.git_trees.specs.declared.walk_fault.WalkBounds.{WalkBounds}
use Rattle.git_trees.specs.declared.walk_fault.WalkFault.{WalkFault}
use Rattle.git_trees.specs.declared.walk_fault.WalkFault.TheVariants as stop
use Rattle.git_trees.specs.Format.{is_folder, key, IsTree}
use Rattle.git_trees.specs.Walk.{TreesTold, IsAllTold, IsNoWalk, AllReach, IsLeaf, IsInner, Reaches, EntriesOf}
use Rattle.git_trees.specs.Stops.{Comes, IsMet, IsAtFolder, IsBroken, IsDeep, IsBadPath, IsStop, IsFree}
use Rattle.git_trees.proofs.Whole.{one_tree, tree_again}
use Rattle.git_trees.proofs.OneWalk.{one_content}

-- a tree that a walk with leaves goes through
record IsWalked (told : TreesTold) (limit left : ℕ) (folder content : List ℕ) : Type 0 where
  pub entries : List TreeEntry
  pub tree : IsTree limit content entries
  pub leaves : List Entry
  pub reach : AllReach (λ f x xs. Reaches told limit left f x xs) folder entries leaves

member_reaches : (Below : List ℕ → TreeEntry → List Entry → Type 0) (folder : List ℕ) (e : TreeEntry) (es : List TreeEntry) (leaves : List Entry) (k : ℕ) → AllReach Below folder es leaves → k < length es → slice_index_or es k e ≡ e → (xs : List Entry) × Below folder e xs
member_reaches Below folder e [] leaves k r less is = absurd (omega (arith, less))
member_reaches Below folder e (x ∷ es) leaves zero r less is = (r.0, subst (λ (y : TreeEntry). Below folder y r.0) is r.3)
member_reaches Below folder e (x ∷ es) leaves (suc k) r less is = member_reaches Below folder e es r.1 k r.4 (omega (arith, less)) is

entry_reaches : (told : TreesTold) (limit left : ℕ) (folder content : List ℕ) (es : List TreeEntry) (e : TreeEntry) → IsWalked told limit left folder content → IsTree limit content es → Contains es e → (xs : List Entry) × Reaches told limit left folder e xs
entry_reaches told limit left folder content es e w tree member =
    let same : w.entries ≡ es = one_tree limit limit content w.entries es w.tree tree in
    member_reaches (λ f x xs. Reaches told limit left f x xs) folder e es w.leaves member.0 (subst (λ (fs : List TreeEntry). AllReach (λ f x xs. Reaches told limit left f x xs) folder fs w.leaves) same w.reach) member.1 member.2

-- what is at an entry, by its kind
pub leaf_here : (told : TreesTold) (limit left : ℕ) (folder : List ℕ) (e : TreeEntry) (xs : List Entry) → is_folder e.mode ≡ false → Reaches told limit left folder e xs → IsLeaf folder e xs
leaf_here told limit zero folder e xs kind r = r
leaf_here told limit (suc left) folder e xs kind (inl leaf) = leaf
leaf_here told limit (suc left) folder e xs kind (inr inner) = let no : false ≡ true = sym kind ∙ inner.kind in absurd cc

pub inner_here : (told : TreesTold) (limit left : ℕ) (folder : List ℕ) (e : TreeEntry) (xs : List Entry) → is_folder e.mode ≡ true → Reaches told limit (suc left) folder e xs → IsInner told limit (λ f x ys. Reaches told limit left f x ys) folder e xs
inner_here told limit left folder e xs kind (inl leaf) = let no : true ≡ false = sym kind ∙ leaf.kind in absurd cc
inner_here told limit left folder e xs kind (inr inner) = inner

inner_walked : (told : TreesTold) (limit left : ℕ) (folder content : List ℕ) (e : TreeEntry) (xs : List Entry) → IsAllTold told → TellsBytes (told e.object) content → IsInner told limit (λ f x ys. Reaches told limit left f x ys) folder e xs → IsWalked told limit left (folder ++ key e) content
inner_walked told limit left folder content e xs all tells inner =
    let same : inner.content ≡ content = one_content (told e.object) inner.content content (all e.object) inner.is_told tells in
    record { entries = inner.entries; tree = subst (λ (c : List ℕ). IsTree limit c inner.entries) same inner.tree; leaves = xs; reach = inner.reach }

into_walked : (told : TreesTold) (limit left : ℕ) (folder content : List ℕ) (e : TreeEntry) → IsAllTold told → is_folder e.mode ≡ true → TellsBytes (told e.object) content → (xs : List Entry) × Reaches told limit (suc left) folder e xs → IsWalked told limit left (folder ++ key e) content
into_walked told limit left folder content e all kind tells r = inner_walked told limit left folder content e r.0 all tells (inner_here told limit left folder e r.0 kind r.1)

root_walked : (told : TreesTold) (limit depth left : ℕ) (root folder content : List ℕ) (leaves : List Entry) → left ≡ depth → folder ≡ [] → content ≡ root → EntriesOf told limit depth root leaves → IsWalked told limit left folder content
root_walked told limit depth left root folder content leaves same none is of =
    subst (λ (f : List ℕ). IsWalked told limit left f content) (sym none)
    (subst (λ (c : List ℕ). IsWalked told limit left [] c) (sym is)
    (subst (λ (d : ℕ). IsWalked told limit d [] root) (sym same)
    (record { entries = of.entries; tree = of.tree; leaves = leaves; reach = of.reach })))

walked : (told : TreesTold) (limit depth : ℕ) (root : List ℕ) (leaves : List Entry) (n left : ℕ) (folder content : List ℕ) → IsAllTold told → EntriesOf told limit depth root leaves → n + left ≡ depth → Comes told limit root n folder content → IsWalked told limit left folder content
walked told limit depth root leaves zero left folder content all of sum comes = root_walked told limit depth left root folder content leaves (omega (arith, sum)) comes.0 comes.1 of
walked told limit depth root leaves (suc n) left folder content all of sum into =
    let outer : IsWalked told limit (suc left) into.outer into.above = walked told limit depth root leaves n (suc left) into.outer into.above all of (omega (arith, sum)) into.comes in
    subst (λ (f : List ℕ). IsWalked told limit left f content) (sym into.path)
    (into_walked told limit left into.outer content into.entry all into.kind into.is_told (entry_reaches told limit (suc left) into.outer into.above into.entries into.entry outer into.tree into.member))

met_reaches : (told : TreesTold) (limit depth : ℕ) (root : List ℕ) (leaves : List Entry) (n left : ℕ) (folder : List ℕ) (e : TreeEntry) → IsAllTold told → EntriesOf told limit depth root leaves → n + left ≡ depth → IsMet told limit root n folder e → (xs : List Entry) × Reaches told limit left folder e xs
met_reaches told limit depth root leaves n left folder e all of sum met =
    entry_reaches told limit left folder met.content met.entries e (walked told limit depth root leaves n left folder met.content all of sum met.comes) met.tree met.member

-- ---- each stop

no_bytes : (told : Told) (content : List ℕ) → (told ≡ Untold → ⊥) → TellsNone told → TellsBytes told content → ⊥
no_bytes (Raw told) content some none tells = none
no_bytes Absent content some none tells = tells
no_bytes Failing content some none tells = tells
no_bytes Untold content some none tells = some refl

no_taking : (told : Told) (content : List ℕ) → (told ≡ Untold → ⊥) → MayFail told → TellsBytes told content → ⊥
no_taking (Raw told) content some none tells = none
no_taking Absent content some none tells = tells
no_taking Failing content some none tells = tells
no_taking Untold content some none tells = some refl

at_folder : (told : TreesTold) (bounds : WalkBounds) (root : List ℕ) (leaves : List Entry) (Holds : Told → Type 0) (path : List ℕ) → ((t : Told) (content : List ℕ) → (t ≡ Untold → ⊥) → Holds t → TellsBytes t content → ⊥) → IsAllTold told → IsAtFolder told bounds root Holds path → EntriesOf told bounds.limit bounds.depth root leaves → ⊥
at_folder told bounds root leaves Holds path none all at of =
    let left = bounds.depth - suc at.n in
    let r = met_reaches told bounds.limit bounds.depth root leaves at.n (suc left) at.folder at.entry all of (omega (arith, at.within)) at.met in
    let inner = inner_here told bounds.limit left at.folder at.entry r.0 at.kind r.1 in
    none (told at.entry.object) inner.content (all at.entry.object) at.holds inner.is_told

at_broken : (told : TreesTold) (bounds : WalkBounds) (root : List ℕ) (leaves : List Entry) (path : List ℕ) (fault : TreeFault) → IsAllTold told → IsBroken told bounds root path fault → EntriesOf told bounds.limit bounds.depth root leaves → ⊥
at_broken told bounds root leaves path fault all at of =
    let w = walked told bounds.limit bounds.depth root leaves at.n (bounds.depth - at.n) path at.content all of (omega (arith, at.within)) at.comes in
    let no : None ≡ Some fault = sym (ap result_err (tree_again bounds.limit at.content w.entries w.tree)) ∙ at.first in
    absurd cc

at_deep : (told : TreesTold) (bounds : WalkBounds) (root : List ℕ) (leaves : List Entry) (path : List ℕ) → IsAllTold told → IsDeep told bounds root path → EntriesOf told bounds.limit bounds.depth root leaves → ⊥
at_deep told bounds root leaves path all at of =
    let r = met_reaches told bounds.limit bounds.depth root leaves bounds.depth 0 at.folder at.entry all of (omega arith) at.met in
    let no : true ≡ false = sym at.kind ∙ r.1.kind in
    absurd cc

at_path : (told : TreesTold) (bounds : WalkBounds) (root : List ℕ) (leaves : List Entry) (path : List ℕ) (fault : PathFault) → IsAllTold told → IsBadPath told bounds root path fault → EntriesOf told bounds.limit bounds.depth root leaves → ⊥
at_path told bounds root leaves path fault all at of =
    let left = bounds.depth - at.n in
    let r = met_reaches told bounds.limit bounds.depth root leaves at.n left at.folder at.entry all of (omega (arith, at.within)) at.met in
    let leaf = leaf_here told bounds.limit left at.folder at.entry r.0 at.kind r.1 in
    let no : None ≡ Some fault = sym leaf.path ∙ ap path_fault (sym at.whole) ∙ at.fault_is in
    absurd cc

pub no_walk : (told : TreesTold) (bounds : WalkBounds) (root : List ℕ) (f : WalkFault) → IsAllTold told → IsStop told bounds root f → (IsFree f → ⊥) → IsNoWalk told bounds.limit bounds.depth root
no_walk told bounds root (stop.Absent path) all at some leaves of = at_folder told bounds root leaves TellsNone path no_bytes all at of
no_walk told bounds root (stop.Failed path) all at some leaves of = at_folder told bounds root leaves MayFail path no_taking all at of
no_walk told bounds root (stop.TooLong path) all at some leaves of = some tt
no_walk told bounds root (stop.Tree path fault) all at some leaves of = at_broken told bounds root leaves path fault all at of
no_walk told bounds root (stop.Deep path) all at some leaves of = at_deep told bounds root leaves path all at of
no_walk told bounds root (stop.Path path fault) all at some leaves of = at_path told bounds root leaves path fault all at of
no_walk told bounds root stop.Count all at some leaves of = at all leaves of
no_walk told bounds root stop.NoMemory all at some leaves of = some tt
