-- A root tree reaches one list of leaves at most.
use Rattle.std.proofs.Common.{◌≡◌, ℕ, zero, suc, true, false, List, [], ◌∷◌, ◌++◌, refl, sym, ap, subst, ◌∙◌, inl, inr}
use Rattle.git_trees.specs.declared.entry.TreeEntry.{TreeEntry}
use Rattle.git_index.specs.declared.entry.Entry.{Entry}
use Rattle.git_trees.specs.Format.{key, IsTree}
use Rattle.git_trees.specs.Walk.{TreesTold, IsAllTold, AllReach, IsInner, Reaches, EntriesOf}
use Rattle.edge_kit.specs.Told.{Told, TellsBytes}
use Rattle.edge_kit.specs.Told.Told.{Raw, Absent, Failing, Untold}
use Rattle.git_trees.proofs.Whole.{one_tree}

abbrev pub IsOne : (List ℕ → TreeEntry → List Entry → Type 0) → Type 0
IsOne Below = (folder : List ℕ) (e : TreeEntry) (xs ys : List Entry) → Below folder e xs → Below folder e ys → xs ≡ ys

pub all_one : (Below : List ℕ → TreeEntry → List Entry → Type 0) (folder : List ℕ) (es : List TreeEntry) (xs ys : List Entry) → IsOne Below → AllReach Below folder es xs → AllReach Below folder es ys → xs ≡ ys
all_one Below folder [] xs ys one r q = r ∙ sym q
all_one Below folder (e ∷ es) xs ys one r q =
    r.2 ∙ ap (λ (zs : List Entry). zs ++ r.1) (one folder e r.0 q.0 r.3 q.3) ∙ ap (λ (zs : List Entry). q.0 ++ zs) (all_one Below folder es r.1 q.1 one r.4 q.4) ∙ sym q.2

-- what is told of a tree is one content
pub one_content : (told : Told) (xs ys : List ℕ) → (told ≡ Untold → ⊥) → TellsBytes told xs → TellsBytes told ys → xs ≡ ys
one_content (Raw told) xs ys some a b = a ∙ sym b
one_content Absent xs ys some a b = absurd a
one_content Failing xs ys some a b = absurd a
one_content Untold xs ys some a b = absurd (some refl)

inner_one : (told : TreesTold) (limit : ℕ) (Below : List ℕ → TreeEntry → List Entry → Type 0) (folder : List ℕ) (e : TreeEntry) (xs ys : List Entry) → IsAllTold told → IsOne Below → IsInner told limit Below folder e xs → IsInner told limit Below folder e ys → xs ≡ ys
inner_one told limit Below folder e xs ys all one r q =
    let content : r.content ≡ q.content = one_content (told e.object) r.content q.content (all e.object) r.is_told q.is_told in
    let tree : IsTree limit q.content r.entries = subst (λ (c : List ℕ). IsTree limit c r.entries) content r.tree in
    let entries : r.entries ≡ q.entries = one_tree limit limit q.content r.entries q.entries tree q.tree in
    all_one Below (folder ++ key e) q.entries xs ys one (subst (λ (es : List TreeEntry). AllReach Below (folder ++ key e) es xs) entries r.reach) q.reach

pub one_reach : (told : TreesTold) (limit depth : ℕ) → IsAllTold told → IsOne (λ f x xs. Reaches told limit depth f x xs)
one_reach told limit zero all folder e xs ys r q = r.one ∙ sym q.one
one_reach told limit (suc depth) all folder e xs ys (inl r) (inl q) = r.one ∙ sym q.one
one_reach told limit (suc depth) all folder e xs ys (inl r) (inr q) = let no : false ≡ true = sym r.kind ∙ q.kind in absurd cc
one_reach told limit (suc depth) all folder e xs ys (inr r) (inl q) = let no : true ≡ false = sym r.kind ∙ q.kind in absurd cc
one_reach told limit (suc depth) all folder e xs ys (inr r) (inr q) = inner_one told limit (λ f x zs. Reaches told limit depth f x zs) folder e xs ys all (one_reach told limit depth all) r q

pub one_walk : (told : TreesTold) (limit depth : ℕ) (root : List ℕ) (xs ys : List Entry) → IsAllTold told → EntriesOf told limit depth root xs → EntriesOf told limit depth root ys → xs ≡ ys
one_walk told limit depth root xs ys all r q =
    let entries : r.entries ≡ q.entries = one_tree limit limit root r.entries q.entries r.tree q.tree in
    all_one (λ f x zs. Reaches told limit depth f x zs) [] q.entries xs ys (one_reach told limit depth all) (subst (λ (es : List TreeEntry). AllReach (λ f x zs. Reaches told limit depth f x zs) [] es xs) entries r.reach) q.reach
