-- The path of no leaf is a folder of a later one's.
use Rattle.std.proofs.Common.{◌≡◌, ℕ, zero, suc, Bool, true, false, eqb, List, [], ◌∷◌, ◌++◌, refl, sym, ap, subst, ◌∙◌, append_assoc, inl, inr}
use Rattle.std.specs.Prelude.{nat_eq, not}
use Rattle.std.specs.List.{list_all, starts_with, AllByRecursion}
use Rattle.std.proofs.lemmas.Bool.{and_parts, eqb-true}
use Rattle.std.proofs.lemmas.List.{append-nil}
use Rattle.std.proofs.lemmas.Slice.Eq.{bytes_eq-Decides}
use Rattle.git_trees.specs.declared.entry.TreeEntry.{TreeEntry}
use Rattle.git_index.specs.declared.entry.Entry.{Entry}
use Rattle.git_trees.specs.Format.{is_name_byte, key_of, key, is_folder, is_other, pairwise}
use Rattle.git_trees.specs.Walk.{TreesTold, AllReach, IsLeaf, IsInner, Reaches, EntriesOf}
use Rattle.git_trees.proofs.Rising.{no_slash, all_append, all_each, IsUnder, IsPlain, AreUnder, are_under, names_of, joined}

-- the path goes on after the folder with a slash
abbrev pub is_in_folder : List ℕ → List ℕ → Bool
is_in_folder folder path = starts_with nat_eq path (folder ++ 47 ∷ [])

abbrev pub leaf_apart : Entry → Entry → Bool
leaf_apart x y = not (is_in_folder x.path y.path)

pub not_from : (b : Bool) → (b ≡ true → ⊥) → not b ≡ true
not_from true none = absurd (none refl)
not_from false none = refl

not_other : (e f : TreeEntry) → is_other e f ≡ true → e.name ≡ f.name → ⊥
not_other e f other same = let no : false ≡ true = sym (ap not ((bytes_eq-Decides e.name f.name).1 same)) ∙ other in absurd cc

-- what stands in front of both texts is no matter
stripped : (p a b c : List ℕ) → starts_with nat_eq (p ++ a) ((p ++ b) ++ c) ≡ true → starts_with nat_eq a (b ++ c) ≡ true
stripped [] a b c h = h
stripped (x ∷ p) a b c h = stripped p a b c (and_parts (eqb x x) (starts_with nat_eq (p ++ a) ((p ++ b) ++ c)) h).1

-- a name and a slash at the front of a text below an entry is that entry's name
same_name : (n m : List ℕ) (kind : Bool) (t r : List ℕ) → list_all is_name_byte n ≡ true → list_all is_name_byte m ≡ true → (kind ≡ false → t ≡ []) → starts_with nat_eq (key_of kind m ++ t) (n ++ 47 ∷ r) ≡ true → n ≡ m
same_name [] [] kind t r plain also none h = refl
same_name [] (c ∷ m) true t r plain also none h = absurd (no_slash c (and_parts (is_name_byte c) (list_all is_name_byte m) also).0 (and_parts (eqb 47 c) (starts_with nat_eq ((m ++ 47 ∷ []) ++ t) r) h).0)
same_name [] (c ∷ m) false t r plain also none h = absurd (no_slash c (and_parts (is_name_byte c) (list_all is_name_byte m) also).0 (and_parts (eqb 47 c) (starts_with nat_eq (m ++ t) r) h).0)
same_name (x ∷ n) [] true t r plain also none h =
    let same : x ≡ 47 = eqb-true x 47 (and_parts (eqb x 47) (starts_with nat_eq t (n ++ 47 ∷ r)) h).0 in
    let no : true ≡ false = sym (and_parts (is_name_byte x) (list_all is_name_byte n) plain).0 ∙ ap is_name_byte same in
    absurd cc
same_name (x ∷ n) [] false t r plain also none h =
    let no : false ≡ true = subst (λ (s : List ℕ). starts_with nat_eq s (x ∷ (n ++ 47 ∷ r)) ≡ true) (none refl) h in
    absurd cc
same_name (x ∷ n) (c ∷ m) true t r plain also none h =
    let q = and_parts (eqb x c) (starts_with nat_eq ((m ++ 47 ∷ []) ++ t) (n ++ 47 ∷ r)) h in
    ap (λ (y : ℕ). y ∷ n) (eqb-true x c q.0) ∙ ap (λ (ys : List ℕ). c ∷ ys) (same_name n m true t r (and_parts (is_name_byte x) (list_all is_name_byte n) plain).1 (and_parts (is_name_byte c) (list_all is_name_byte m) also).1 none q.1)
same_name (x ∷ n) (c ∷ m) false t r plain also none h =
    let q = and_parts (eqb x c) (starts_with nat_eq (m ++ t) (n ++ 47 ∷ r)) h in
    ap (λ (y : ℕ). y ∷ n) (eqb-true x c q.0) ∙ ap (λ (ys : List ℕ). c ∷ ys) (same_name n m false t r (and_parts (is_name_byte x) (list_all is_name_byte n) plain).1 (and_parts (is_name_byte c) (list_all is_name_byte m) also).1 none q.1)

-- what follows the name and the slash
abbrev after_name : Bool → List ℕ → List ℕ
after_name true s = s ++ 47 ∷ []
after_name false s = []

slashed : (kind : Bool) (n s : List ℕ) → (kind ≡ false → s ≡ []) → (key_of kind n ++ s) ++ 47 ∷ [] ≡ n ++ 47 ∷ after_name kind s
slashed true n s none = append_assoc (n ++ 47 ∷ []) s (47 ∷ []) ∙ append_assoc n (47 ∷ []) (s ++ 47 ∷ [])
slashed false n s none = ap (λ (t : List ℕ). (n ++ t) ++ 47 ∷ []) (none refl) ∙ ap (λ (t : List ℕ). t ++ 47 ∷ []) (append-nil n)

-- a leaf below an entry with another name
record IsElsewhere (folder : List ℕ) (e : TreeEntry) (x : Entry) : Type 0 where
  pub entry : TreeEntry
  pub other : is_other e entry ≡ true
  pub plain : IsPlain entry
  pub under : IsUnder folder entry x

clashes : (folder : List ℕ) (e : TreeEntry) (x y : Entry) → IsPlain e → IsUnder folder e x → IsElsewhere folder e y → is_in_folder x.path y.path ≡ true → ⊥
clashes folder e x y plain u w h =
    let f = w.entry in
    let v = w.under in
    let whole : starts_with nat_eq (folder ++ (key f ++ v.more)) ((folder ++ (key e ++ u.more)) ++ 47 ∷ []) ≡ true = rw (u.path, v.path) at h in
    let short : starts_with nat_eq (key f ++ v.more) ((key e ++ u.more) ++ 47 ∷ []) ≡ true = stripped folder (key f ++ v.more) (key e ++ u.more) (47 ∷ []) whole in
    let named : starts_with nat_eq (key f ++ v.more) (e.name ++ 47 ∷ after_name (is_folder e.mode) u.more) ≡ true = subst (λ (t : List ℕ). starts_with nat_eq (key f ++ v.more) t ≡ true) (slashed (is_folder e.mode) e.name u.more u.none) short in
    not_other e f w.other (same_name e.name f.name (is_folder f.mode) v.more (after_name (is_folder e.mode) u.more) plain w.plain v.none named)

two_apart : (folder : List ℕ) (e : TreeEntry) → IsPlain e → (x y : Entry) → IsUnder folder e x → IsElsewhere folder e y → leaf_apart x y ≡ true
two_apart folder e plain x y u w = not_from (is_in_folder x.path y.path) (clashes folder e x y plain u w)

all_elsewhere : (Below : List ℕ → TreeEntry → List Entry → Type 0) (folder : List ℕ) (e : TreeEntry) (es : List TreeEntry) (xs : List Entry) → AreUnder Below → list_all (is_other e) es ≡ true → AllByRecursion IsPlain es → AllReach Below folder es xs → AllByRecursion (IsElsewhere folder e) xs
all_elsewhere Below folder e [] xs under other plain r = subst (AllByRecursion (IsElsewhere folder e)) (sym r) tt
all_elsewhere Below folder e (f ∷ es) xs under other plain r =
    let p = and_parts (is_other e f) (list_all (is_other e) es) other in
    subst (AllByRecursion (IsElsewhere folder e)) (sym r.2) (all_append (IsElsewhere folder e) r.0 r.1
    (all_each (IsUnder folder f) (IsElsewhere folder e) r.0 (λ x u. record { entry = f; other = p.0; plain = plain.0; under = u }) (under folder f r.0 r.3))
    (all_elsewhere Below folder e es r.1 under p.1 plain.1 r.4))

abbrev AreApart : (List ℕ → TreeEntry → List Entry → Type 0) → Type 0
AreApart Below = (folder : List ℕ) (e : TreeEntry) (xs : List Entry) → Below folder e xs → pairwise leaf_apart xs ≡ true

all_apart : (Below : List ℕ → TreeEntry → List Entry → Type 0) (folder : List ℕ) (es : List TreeEntry) (xs : List Entry) → AreUnder Below → AreApart Below → pairwise is_other es ≡ true → AllByRecursion IsPlain es → AllReach Below folder es xs → pairwise leaf_apart xs ≡ true
all_apart Below folder [] xs under apart others plain r = rw r refl
all_apart Below folder (e ∷ es) xs under apart others plain r =
    let p = and_parts (list_all (is_other e) es) (pairwise is_other es) others in
    subst (λ (ys : List Entry). pairwise leaf_apart ys ≡ true) (sym r.2) (joined leaf_apart (IsUnder folder e) (IsElsewhere folder e) r.0 r.1 (two_apart folder e plain.0) (under folder e r.0 r.3) (all_elsewhere Below folder e es r.1 under p.0 plain.1 r.4) (apart folder e r.0 r.3) (all_apart Below folder es r.1 under apart p.1 plain.1 r.4))

leaf_alone : (folder : List ℕ) (e : TreeEntry) (xs : List Entry) → IsLeaf folder e xs → pairwise leaf_apart xs ≡ true
leaf_alone folder e xs leaf = rw leaf.one refl

inner_apart : (told : TreesTold) (limit : ℕ) (Below : List ℕ → TreeEntry → List Entry → Type 0) (folder : List ℕ) (e : TreeEntry) (xs : List Entry) → AreUnder Below → AreApart Below → IsInner told limit Below folder e xs → pairwise leaf_apart xs ≡ true
inner_apart told limit Below folder e xs under apart inner =
    all_apart Below (folder ++ key e) inner.entries xs under apart inner.tree.apart (names_of limit inner.content inner.entries inner.tree) inner.reach

are_apart : (told : TreesTold) (limit depth : ℕ) → AreApart (λ f x xs. Reaches told limit depth f x xs)
are_apart told limit zero folder e xs r = leaf_alone folder e xs r
are_apart told limit (suc depth) folder e xs r = elim r [
  | inl leaf ↦ leaf_alone folder e xs leaf
  | inr inner ↦ inner_apart told limit (λ f y ys. Reaches told limit depth f y ys) folder e xs (are_under told limit depth) (are_apart told limit depth) inner
]

pub leaves_are_apart : (told : TreesTold) (limit depth : ℕ) (root : List ℕ) (leaves : List Entry) → EntriesOf told limit depth root leaves → pairwise leaf_apart leaves ≡ true
leaves_are_apart told limit depth root leaves of =
    all_apart (λ f x xs. Reaches told limit depth f x xs) [] of.entries leaves (are_under told limit depth) (are_apart told limit depth) of.tree.apart (names_of limit root of.entries of.tree) of.reach
