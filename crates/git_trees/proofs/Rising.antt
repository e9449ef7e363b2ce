-- The leaves of a tree rise.
use Rattle.std.proofs.Common.{◌≡◌, ℕ, zero, suc, ◌<◌, Bool, true, false, eqb, List, [], ◌∷◌, ◌++◌, refl, sym, ap, subst, ◌∙◌, append_assoc, arith, inl, inr, ◌⊎◌}
use Rattle.std.specs.Prelude.{nat_eq, map}
use Rattle.std.specs.List.{list_all, starts_with, AllByRecursion}
use Rattle.std.proofs.lemmas.Bool.{and_parts, and_from, lt-ltb, le-ltb, eqb-true, eq-eqb, ne_eqb, cases_order}
use Rattle.std.proofs.lemmas.List.{append-nil}
use Rattle.std.proofs.lemmas.List.Folds.{list_all-append}
use Rattle.git_trees.specs.declared.entry.TreeEntry.{TreeEntry}
use Rattle.git_index.specs.declared.entry.Entry.{Entry}
use Rattle.git_trees.specs.Format.{is_name_byte, key_of, key, is_folder, is_before, is_below, pairwise, Written, IsWritten, IsTree}
use Rattle.git_trees.specs.Walk.{TreesTold, AllReach, IsLeaf, IsInner, Reaches, EntriesOf}

-- ---- texts in order

is_before-cons : (x y : ℕ) (xs ys : List ℕ) → is_before (x ∷ xs) (y ∷ ys) ≡ true → (x < y) ⊎ ((x ≡ y) × (is_before xs ys ≡ true))
is_before-cons x y xs ys h =
    elim (cases_order x y) [
      | inl same ↦ inr (same, rw (le-ltb x y (omega arith), eq-eqb x y same) at h)
      | inr other ↦ elim other [
        | inl less ↦ inl less
        | inr more ↦ let no : true ≡ false = sym (rw (le-ltb x y (omega arith), ne_eqb x y (λ e. omega (arith, e))) at h) in absurd cc
      ]
    ]

pub not_itself : (xs : List ℕ) → is_before xs xs ≡ true → ⊥
not_itself [] h = absurd cc
not_itself (x ∷ xs) h = elim (is_before-cons x x xs xs h) [
  | inl less ↦ absurd (omega (arith, less))
  | inr tied ↦ not_itself xs tied.1
]

-- what follows texts in order does not matter, unless the one goes on as the other
extended : (a b s t : List ℕ) → is_before a b ≡ true → (starts_with nat_eq b a ≡ true → s ≡ []) → is_before (a ++ s) (b ++ t) ≡ true
extended [] [] s t h none = absurd cc
extended [] (y ∷ b) s t h none = rw (none refl) refl
extended (x ∷ a) [] s t h none = absurd cc
extended (x ∷ a) (y ∷ b) s t h none = elim (is_before-cons x y a b h) [
  | inl less ↦ rw (lt-ltb x y less) refl
  | inr tied ↦ rw (le-ltb x y (omega (arith, tied.0)), eq-eqb x y tied.0) (extended a b s t tied.1 (λ begins. none (and_from (eqb x y) (starts_with nat_eq b a) (eq-eqb x y tied.0) begins)))
]

prefixed : (p a b : List ℕ) → is_before a b ≡ true → is_before (p ++ a) (p ++ b) ≡ true
prefixed [] a b h = h
prefixed (x ∷ p) a b h = rw (le-ltb x x (omega arith), eq-eqb x x refl) (prefixed p a b h)

-- ---- keys

pub no_slash : (c : ℕ) → is_name_byte c ≡ true → eqb 47 c ≡ true → ⊥
no_slash c plain is = let same : 47 ≡ c = eqb-true 47 c is in let no : false ≡ true = ap is_name_byte same ∙ plain in absurd cc

starts_none : (p : List ℕ) → starts_with nat_eq [] (p ++ 47 ∷ []) ≡ true → ⊥
starts_none [] h = absurd cc
starts_none (x ∷ p) h = absurd cc

-- a key that begins with that of a folder is that one
whole_key : (p n : List ℕ) (folder : Bool) → list_all is_name_byte n ≡ true → starts_with nat_eq (key_of folder n) (p ++ 47 ∷ []) ≡ true → key_of folder n ≡ p ++ 47 ∷ []
whole_key [] [] true plain h = refl
whole_key [] [] false plain h = absurd cc
whole_key [] (c ∷ n) true plain h = absurd (no_slash c (and_parts (is_name_byte c) (list_all is_name_byte n) plain).0 (and_parts (eqb 47 c) (starts_with nat_eq (n ++ 47 ∷ []) []) h).0)
whole_key [] (c ∷ n) false plain h = absurd (no_slash c (and_parts (is_name_byte c) (list_all is_name_byte n) plain).0 (and_parts (eqb 47 c) (starts_with nat_eq n []) h).0)
whole_key (x ∷ p) [] true plain h = absurd (starts_none p (and_parts (eqb x 47) (starts_with nat_eq [] (p ++ 47 ∷ [])) h).1)
whole_key (x ∷ p) [] false plain h = absurd cc
whole_key (x ∷ p) (c ∷ n) true plain h =
    let q = and_parts (eqb x c) (starts_with nat_eq (n ++ 47 ∷ []) (p ++ 47 ∷ [])) h in
    let rest : n ++ 47 ∷ [] ≡ p ++ 47 ∷ [] = whole_key p n true (and_parts (is_name_byte c) (list_all is_name_byte n) plain).1 q.1 in
    ap (λ (y : ℕ). y ∷ (n ++ 47 ∷ [])) (sym (eqb-true x c q.0)) ∙ ap (λ (ys : List ℕ). x ∷ ys) rest
whole_key (x ∷ p) (c ∷ n) false plain h =
    let q = and_parts (eqb x c) (starts_with nat_eq n (p ++ 47 ∷ [])) h in
    let rest : n ≡ p ++ 47 ∷ [] = whole_key p n false (and_parts (is_name_byte c) (list_all is_name_byte n) plain).1 q.1 in
    ap (λ (y : ℕ). y ∷ n) (sym (eqb-true x c q.0)) ∙ ap (λ (ys : List ℕ). x ∷ ys) rest

no_more : (kind : Bool) (n : List ℕ) (k s : List ℕ) → is_before (key_of kind n) k ≡ true → (kind ≡ false → s ≡ []) → (starts_with nat_eq k (n ++ 47 ∷ []) ≡ true → k ≡ n ++ 47 ∷ []) → starts_with nat_eq k (key_of kind n) ≡ true → s ≡ []
no_more false n k s h none whole begins = none refl
no_more true n k s h none whole begins = absurd (not_itself (n ++ 47 ∷ []) (subst (λ (y : List ℕ). is_before (n ++ 47 ∷ []) y ≡ true) (whole begins) h))

-- all below one entry comes before all below a later one
apart : (e f : TreeEntry) (s t : List ℕ) → is_below e f ≡ true → list_all is_name_byte f.name ≡ true → (is_folder e.mode ≡ false → s ≡ []) → is_before (key e ++ s) (key f ++ t) ≡ true
apart e f s t h plain none = extended (key e) (key f) s t h (no_more (is_folder e.mode) e.name (key f) s h none (whole_key e.name f.name (is_folder f.mode) plain))

-- ---- leaves

-- the path of one leaf comes before that of another
abbrev pub leaf_below : Entry → Entry → Bool
leaf_below x y = is_before x.path y.path

-- a leaf below an entry of a folder
pub record IsUnder (folder : List ℕ) (e : TreeEntry) (x : Entry) : Type 0 where
  pub more : List ℕ
  pub path : x.path ≡ folder ++ (key e ++ more)
  pub none : is_folder e.mode ≡ false → more ≡ []

-- a leaf below an entry that comes after this one
record IsAfter (folder : List ℕ) (e : TreeEntry) (x : Entry) : Type 0 where
  pub entry : TreeEntry
  pub below : is_below e entry ≡ true
  pub plain : list_all is_name_byte entry.name ≡ true
  pub more : List ℕ
  pub path : x.path ≡ folder ++ (key entry ++ more)

pub record IsIn (folder : List ℕ) (x : Entry) : Type 0 where
  pub more : List ℕ
  pub path : x.path ≡ folder ++ more

pub all_append : {X : Type 0} (P : X → Type 0) (xs ys : List X) → AllByRecursion P xs → AllByRecursion P ys → AllByRecursion P (xs ++ ys)
all_append P [] ys a b = b
all_append P (x ∷ xs) ys a b = (a.0, all_append P xs ys a.1 b)

pub all_each : {X : Type 0} (P Q : X → Type 0) (xs : List X) → ((x : X) → P x → Q x) → AllByRecursion P xs → AllByRecursion Q xs
all_each P Q [] h a = tt
all_each P Q (x ∷ xs) h a = (h x a.0, all_each P Q xs h a.1)

abbrev pub IsPlain : TreeEntry → Type 0
IsPlain e = list_all is_name_byte e.name ≡ true

abbrev pub AreUnder : (List ℕ → TreeEntry → List Entry → Type 0) → Type 0
AreUnder Below = (folder : List ℕ) (e : TreeEntry) (xs : List Entry) → Below folder e xs → AllByRecursion (IsUnder folder e) xs

abbrev DoRise : (List ℕ → TreeEntry → List Entry → Type 0) → Type 0
DoRise Below = (folder : List ℕ) (e : TreeEntry) (xs : List Entry) → Below folder e xs → pairwise leaf_below xs ≡ true

pub all_in : (Below : List ℕ → TreeEntry → List Entry → Type 0) (folder : List ℕ) (es : List TreeEntry) (xs : List Entry) → AreUnder Below → AllReach Below folder es xs → AllByRecursion (IsIn folder) xs
all_in Below folder [] xs under r = subst (AllByRecursion (IsIn folder)) (sym r) tt
all_in Below folder (e ∷ es) xs under r =
    subst (AllByRecursion (IsIn folder)) (sym r.2) (all_append (IsIn folder) r.0 r.1
    (all_each (IsUnder folder e) (IsIn folder) r.0 (λ x u. record { more = key e ++ u.more; path = u.path }) (under folder e r.0 r.3))
    (all_in Below folder es r.1 under r.4))

all_after : (Below : List ℕ → TreeEntry → List Entry → Type 0) (folder : List ℕ) (e : TreeEntry) (es : List TreeEntry) (xs : List Entry) → AreUnder Below → list_all (is_below e) es ≡ true → AllByRecursion IsPlain es → AllReach Below folder es xs → AllByRecursion (IsAfter folder e) xs
all_after Below folder e [] xs under below plain r = subst (AllByRecursion (IsAfter folder e)) (sym r) tt
all_after Below folder e (f ∷ es) xs under below plain r =
    let p = and_parts (is_below e f) (list_all (is_below e) es) below in
    subst (AllByRecursion (IsAfter folder e)) (sym r.2) (all_append (IsAfter folder e) r.0 r.1
    (all_each (IsUnder folder f) (IsAfter folder e) r.0 (λ x u. record { entry = f; below = p.0; plain = plain.0; more = u.more; path = u.path }) (under folder f r.0 r.3))
    (all_after Below folder e es r.1 under p.1 plain.1 r.4))

in_order : (folder : List ℕ) (e : TreeEntry) (x y : Entry) → IsUnder folder e x → IsAfter folder e y → leaf_below x y ≡ true
in_order folder e x y u a =
    let h : is_before (folder ++ (key e ++ u.more)) (folder ++ (key a.entry ++ a.more)) ≡ true = prefixed folder (key e ++ u.more) (key a.entry ++ a.more) (apart e a.entry u.more a.more a.below a.plain u.none) in
    rw (u.path, a.path) h

one_before : (test : Entry → Entry → Bool) (P Q : Entry → Type 0) (x : Entry) (ys : List Entry) → ((x y : Entry) → P x → Q y → test x y ≡ true) → P x → AllByRecursion Q ys → list_all (test x) ys ≡ true
one_before test P Q x [] law u a = refl
one_before test P Q x (y ∷ ys) law u a = and_from (test x y) (list_all (test x) ys) (law x y u a.0) (one_before test P Q x ys law u a.1)

-- leaves with a fact, and then leaves with another, where each two with these facts pass the test
pub joined : (test : Entry → Entry → Bool) (P Q : Entry → Type 0) (xs ys : List Entry) → ((x y : Entry) → P x → Q y → test x y ≡ true) → AllByRecursion P xs → AllByRecursion Q ys → pairwise test xs ≡ true → pairwise test ys ≡ true → pairwise test (xs ++ ys) ≡ true
joined test P Q [] ys law u a first second = second
joined test P Q (x ∷ xs) ys law u a first second =
    let p = and_parts (list_all (test x) xs) (pairwise test xs) first in
    and_from (list_all (test x) (xs ++ ys)) (pairwise test (xs ++ ys))
    (list_all-append (test x) xs ys ∙ and_from (list_all (test x) xs) (list_all (test x) ys) p.0 (one_before test P Q x ys law u.0 a))
    (joined test P Q xs ys law u.1 a p.1 second)

all_rise : (Below : List ℕ → TreeEntry → List Entry → Type 0) (folder : List ℕ) (es : List TreeEntry) (xs : List Entry) → AreUnder Below → DoRise Below → pairwise is_below es ≡ true → AllByRecursion IsPlain es → AllReach Below folder es xs → pairwise leaf_below xs ≡ true
all_rise Below folder [] xs under rise rising plain r = rw r refl
all_rise Below folder (e ∷ es) xs under rise rising plain r =
    let p = and_parts (list_all (is_below e) es) (pairwise is_below es) rising in
    subst (λ (ys : List Entry). pairwise leaf_below ys ≡ true) (sym r.2) (joined leaf_below (IsUnder folder e) (IsAfter folder e) r.0 r.1 (in_order folder e) (under folder e r.0 r.3) (all_after Below folder e es r.1 under p.0 plain.1 r.4) (rise folder e r.0 r.3) (all_rise Below folder es r.1 under rise p.1 plain.1 r.4))

plain_names : (ws : List Written) → AllByRecursion IsWritten ws → AllByRecursion IsPlain (map (λ w. w.entry) ws)
plain_names [] fit = tt
plain_names (w ∷ ws) fit = (fit.0.plain, plain_names ws fit.1)

pub names_of : (limit : ℕ) (bytes : List ℕ) (es : List TreeEntry) → IsTree limit bytes es → AllByRecursion IsPlain es
names_of limit bytes es tree = subst (AllByRecursion IsPlain) tree.same (plain_names tree.written tree.fit)

-- ---- one entry, by the levels of trees

name_key : (kind : Bool) (n : List ℕ) → kind ≡ false → n ≡ key_of kind n ++ []
name_key false n h = sym (append-nil n)
name_key true n h = absurd cc

leaf_under : (folder : List ℕ) (e : TreeEntry) (xs : List Entry) → IsLeaf folder e xs → AllByRecursion (IsUnder folder e) xs
leaf_under folder e xs leaf =
    subst (AllByRecursion (IsUnder folder e)) (sym leaf.one) (record { more = []; path = ap (λ (n : List ℕ). folder ++ n) (name_key (is_folder e.mode) e.name leaf.kind); none = λ h. refl }, tt)

leaf_rises : (folder : List ℕ) (e : TreeEntry) (xs : List Entry) → IsLeaf folder e xs → pairwise leaf_below xs ≡ true
leaf_rises folder e xs leaf = rw leaf.one refl

inner_under : (told : TreesTold) (limit : ℕ) (Below : List ℕ → TreeEntry → List Entry → Type 0) (folder : List ℕ) (e : TreeEntry) (xs : List Entry) → AreUnder Below → IsInner told limit Below folder e xs → AllByRecursion (IsUnder folder e) xs
inner_under told limit Below folder e xs under inner =
    all_each (IsIn (folder ++ key e)) (IsUnder folder e) xs
    (λ x i. record { more = i.more; path = i.path ∙ append_assoc folder (key e) i.more; none = λ h. let no : true ≡ false = sym inner.kind ∙ h in absurd cc })
    (all_in Below (folder ++ key e) inner.entries xs under inner.reach)

inner_rises : (told : TreesTold) (limit : ℕ) (Below : List ℕ → TreeEntry → List Entry → Type 0) (folder : List ℕ) (e : TreeEntry) (xs : List Entry) → AreUnder Below → DoRise Below → IsInner told limit Below folder e xs → pairwise leaf_below xs ≡ true
inner_rises told limit Below folder e xs under rise inner =
    all_rise Below (folder ++ key e) inner.entries xs under rise inner.tree.rising (names_of limit inner.content inner.entries inner.tree) inner.reach

pub are_under : (told : TreesTold) (limit depth : ℕ) → AreUnder (λ f x xs. Reaches told limit depth f x xs)
are_under told limit zero folder e xs r = leaf_under folder e xs r
are_under told limit (suc depth) folder e xs r = elim r [
  | inl leaf ↦ leaf_under folder e xs leaf
  | inr inner ↦ inner_under told limit (λ f y ys. Reaches told limit depth f y ys) folder e xs (are_under told limit depth) inner
]

do_rise : (told : TreesTold) (limit depth : ℕ) → DoRise (λ f x xs. Reaches told limit depth f x xs)
do_rise told limit zero folder e xs r = leaf_rises folder e xs r
do_rise told limit (suc depth) folder e xs r = elim r [
  | inl leaf ↦ leaf_rises folder e xs leaf
  | inr inner ↦ inner_rises told limit (λ f y ys. Reaches told limit depth f y ys) folder e xs (are_under told limit depth) (do_rise told limit depth) inner
]

pub leaves_rise : (told : TreesTold) (limit depth : ℕ) (root : List ℕ) (leaves : List Entry) → EntriesOf told limit depth root leaves → pairwise leaf_below leaves ≡ true
leaves_rise told limit depth root leaves of =
    all_rise (λ f x xs. Reaches told limit depth f x xs) [] of.entries leaves (are_under told limit depth) (do_rise told limit depth) of.tree.rising (names_of limit root of.entries of.tree) of.reach
