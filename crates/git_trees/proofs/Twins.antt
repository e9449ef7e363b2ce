-- The two places where an entry of one name can stand among entries in order.
use Rattle.std.proofs.Common.{◌≡◌, ℕ, zero, suc, ◌+◌, ◌<◌, ◌≤◌, Bool, true, false, ◌&&◌, ◌||◌, cond, List, [], ◌∷◌, length, get_or, refl, sym, ap, subst, ◌∙◌, arith, inl, inr, ◌⊎◌}
use Rattle.std.specs.Prelude.{slice_get}
use Rattle.std.specs.List.{list_all, list_any, prefix_len}
use Rattle.std.specs.List.Sorted.{IsPartitionedBy, IsPartitionPoint}
use Rattle.std.specs.Str.{bytes_eq}
use Rattle.std.proofs.lemmas.Bool.{and_parts, and_from, or_cases, cases_order}
use Rattle.std.proofs.lemmas.List.Sums.{prefix_len_is}
use Rattle.std.proofs.lemmas.Slice.Eq.{bytes_eq-Decides}
use Rattle.git_trees.specs.declared.entry.TreeEntry.{TreeEntry}
use Rattle.git_trees.specs.declared.entry.TreeMode.TheVariants.{Plain}
use Rattle.git_trees.specs.Format.{is_folder, key_of, key, is_before, is_below, is_same, pairwise}
use Rattle.git_trees.specs.Seen.{has_name}
use Rattle.git_trees.proofs.Ordered.{is_before-trans, or_left}
use Rattle.git_trees.proofs.Rising.{not_itself}

all_at : (test : TreeEntry → Bool) (es : List TreeEntry) (k : ℕ) (d : TreeEntry) → list_all test es ≡ true → k < length es → test (get_or es k d) ≡ true
all_at test [] k d h less = absurd (omega arith)
all_at test (x ∷ es) zero d h less = (and_parts (test x) (list_all test es) h).0
all_at test (x ∷ es) (suc k) d h less = all_at test es k d (and_parts (test x) (list_all test es) h).1 (omega arith)

below_at : (es : List TreeEntry) (i j : ℕ) (d : TreeEntry) → pairwise is_below es ≡ true → i < j → j < length es → is_below (get_or es i d) (get_or es j d) ≡ true
below_at [] i j d h less most = absurd (omega arith)
below_at (x ∷ es) i zero d h less most = absurd (omega arith)
below_at (x ∷ es) zero (suc j) d h less most = all_at (is_below x) es j d (and_parts (list_all (is_below x) es) (pairwise is_below es) h).0 (omega arith)
below_at (x ∷ es) (suc i) (suc j) d h less most = below_at es i j d (and_parts (list_all (is_below x) es) (pairwise is_below es) h).1 (omega arith) (omega arith)

pub parted : (es : List TreeEntry) (k : List ℕ) → pairwise is_below es ≡ true → IsPartitionedBy (λ b. is_before (key b) k) es
parted es k rising i j d le most h = elim (cases_order i j) [
  | inl same ↦ ap (λ (n : ℕ). is_before (key (get_or es n d)) k) same ∙ h
  | inr other ↦ elim other [
    | inl less ↦ is_before-trans (key (get_or es i d)) (key (get_or es j d)) k (below_at es i j d rising less most) h
    | inr more ↦ absurd (omega (arith, le, more))
  ]
]

abbrev is_hit : TreeEntry → List ℕ → TreeEntry → Bool
is_hit e k b = is_same b e && bytes_eq (key b) k

hit_key : (e : TreeEntry) (k : List ℕ) (b : TreeEntry) → is_hit e k b ≡ true → key b ≡ k
hit_key e k b h = (bytes_eq-Decides (key b) k).0 (and_parts (is_same b e) (bytes_eq (key b) k) h).1

later : (e b : TreeEntry) (k : List ℕ) (es : List TreeEntry) → list_all (is_below b) es ≡ true → list_any (is_hit e k) es ≡ true → is_before (key b) k ≡ true
later e b k [] below any = absurd cc
later e b k (c ∷ es) below any =
    let p = and_parts (is_below b c) (list_all (is_below b) es) below in
    elim (or_cases (is_hit e k c) (list_any (is_hit e k) es) any) [
      | inl here ↦ subst (λ (x : List ℕ). is_before (key b) x ≡ true) (hit_key e k c here) p.0
      | inr there ↦ later e b k es p.1 there
    ]

one_on : (e b : TreeEntry) (es : List TreeEntry) (m : ℕ) → has_name e (slice_get es m) ≡ true → has_name e (slice_get (b ∷ es) (1 + m)) ≡ true
one_on e b es m h = let next : 1 + m ≡ suc m = omega arith in ap (λ (n : ℕ). has_name e (slice_get (b ∷ es) n)) next ∙ h

found_by : (t : Bool) (e b : TreeEntry) (k : List ℕ) (es : List TreeEntry) (m : ℕ) → is_before (key b) k ≡ t → list_all (is_below b) es ≡ true → (is_hit e k b ≡ true) ⊎ (list_any (is_hit e k) es ≡ true)
    → (list_any (is_hit e k) es ≡ true → has_name e (slice_get es m) ≡ true) → has_name e (slice_get (b ∷ es) (cond t (1 + m) 0)) ≡ true
found_by true e b k es m is below (inl here) others = absurd (not_itself k (subst (λ (x : List ℕ). is_before x k ≡ true) (hit_key e k b here) is))
found_by true e b k es m is below (inr there) others = one_on e b es m (others there)
found_by false e b k es m is below (inl here) others = (and_parts (is_same b e) (bytes_eq (key b) k) here).0
found_by false e b k es m is below (inr there) others = let no : false ≡ true = sym is ∙ later e b k es below there in absurd cc

found_at : (e : TreeEntry) (k : List ℕ) (es : List TreeEntry) → pairwise is_below es ≡ true → list_any (is_hit e k) es ≡ true → has_name e (slice_get es (prefix_len (λ b. is_before (key b) k) es)) ≡ true
found_at e k [] rising any = absurd cc
found_at e k (b ∷ es) rising any =
    let p = and_parts (list_all (is_below b) es) (pairwise is_below es) rising in
    found_by (is_before (key b) k) e b k es (prefix_len (λ c. is_before (key c) k) es) refl p.0 (or_cases (is_hit e k b) (list_any (is_hit e k) es) any) (found_at e k es p.1)

or_right : (a b : Bool) → b ≡ true → (a || b) ≡ true
or_right true b e = refl
or_right false b e = e

some_named : (e : TreeEntry) (es : List TreeEntry) (i : ℕ) → has_name e (slice_get es i) ≡ true → list_any (λ b. is_same b e) es ≡ true
some_named e [] i h = absurd cc
some_named e (b ∷ es) zero h = or_left (is_same b e) (list_any (λ c. is_same c e) es) h
some_named e (b ∷ es) (suc i) h = or_right (is_same b e) (list_any (λ c. is_same c e) es) (some_named e es i h)

hit_of : (e b : TreeEntry) → is_same b e ≡ true → (kind : Bool) → is_folder b.mode ≡ kind → is_hit e (key_of kind e.name) b ≡ true
hit_of e b same kind is =
    let name : b.name ≡ e.name = (bytes_eq-Decides b.name e.name).0 same in
    and_from (is_same b e) (bytes_eq (key b) (key_of kind e.name)) same
    ((bytes_eq-Decides (key b) (key_of kind e.name)).1 (ap (λ (t : Bool). key_of t b.name) is ∙ ap (key_of kind) name))

by_kind : (e b : TreeEntry) (es : List TreeEntry) → is_same b e ≡ true → (kind : Bool) → is_folder b.mode ≡ kind
    → (list_any (is_hit e (key_of false e.name)) (b ∷ es) ≡ true) ⊎ (list_any (is_hit e (key_of true e.name)) (b ∷ es) ≡ true)
by_kind e b es same false is = inl (or_left (is_hit e (key_of false e.name) b) (list_any (is_hit e (key_of false e.name)) es) (hit_of e b same false is))
by_kind e b es same true is = inr (or_left (is_hit e (key_of true e.name) b) (list_any (is_hit e (key_of true e.name)) es) (hit_of e b same true is))

split_any : (e : TreeEntry) (es : List TreeEntry) → list_any (λ b. is_same b e) es ≡ true → (list_any (is_hit e (key_of false e.name)) es ≡ true) ⊎ (list_any (is_hit e (key_of true e.name)) es ≡ true)
split_any e [] any = absurd cc
split_any e (b ∷ es) any = elim (or_cases (is_same b e) (list_any (λ c. is_same c e) es) any) [
  | inl here ↦ by_kind e b es here (is_folder b.mode) refl
  | inr there ↦ elim (split_any e es there) [
    | inl file ↦ inl (or_right (is_hit e (key_of false e.name) b) (list_any (is_hit e (key_of false e.name)) es) file)
    | inr folder ↦ inr (or_right (is_hit e (key_of true e.name) b) (list_any (is_hit e (key_of true e.name)) es) folder)
  ]
]

bool_same : (a b : Bool) → (a ≡ true → b ≡ true) → (b ≡ true → a ≡ true) → a ≡ b
bool_same true b to from = sym (to refl)
bool_same false true to from = from refl
bool_same false false to from = refl

pub twins : (e : TreeEntry) (es : List TreeEntry) (i j : ℕ) → pairwise is_below es ≡ true → i ≡ prefix_len (λ b. is_before (key b) (key_of false e.name)) es → j ≡ prefix_len (λ b. is_before (key b) (key_of true e.name)) es
    → (has_name e (slice_get es i) || has_name e (slice_get es j)) ≡ list_any (λ b. is_same b e) es
twins e es i j rising file folder =
    bool_same (has_name e (slice_get es i) || has_name e (slice_get es j)) (list_any (λ b. is_same b e) es)
    (λ some. elim (or_cases (has_name e (slice_get es i)) (has_name e (slice_get es j)) some) [
      | inl first ↦ some_named e es i first
      | inr second ↦ some_named e es j second
    ])
    (λ any. elim (split_any e es any) [
      | inl one ↦ or_left (has_name e (slice_get es i)) (has_name e (slice_get es j)) (ap (λ (n : ℕ). has_name e (slice_get es n)) file ∙ found_at e (key_of false e.name) es rising one)
      | inr one ↦ or_right (has_name e (slice_get es i)) (has_name e (slice_get es j)) (ap (λ (n : ℕ). has_name e (slice_get es n)) folder ∙ found_at e (key_of true e.name) es rising one)
    ])

named : (e : TreeEntry) (es : List TreeEntry) (i : ℕ) (n : List ℕ) (folder : Bool) → n ≡ e.name → i ≡ prefix_len (λ b. is_before (key b) (key_of folder n)) es → i ≡ prefix_len (λ b. is_before (key b) (key_of folder e.name)) es
named e es i n folder same is = is ∙ ap (λ (m : List ℕ). prefix_len (λ b. is_before (key b) (key_of folder m)) es) same

pub twins_then : (e : TreeEntry) (es : List TreeEntry) (i j : ℕ) (n : List ℕ) → n ≡ e.name → pairwise is_below es ≡ true → i ≡ prefix_len (λ b. is_before (key b) (key_of false n)) es → j ≡ prefix_len (λ b. is_before (key b) (key_of true n)) es
    → has_name e (slice_get es i) ≡ true → true ≡ list_any (λ b. is_same b e) es
twins_then e es i j n same rising file folder some =
    sym (or_left (has_name e (slice_get es i)) (has_name e (slice_get es j)) some) ∙ twins e es i j rising (named e es i n false same file) (named e es j n true same folder)

pub twins_else : (e : TreeEntry) (es : List TreeEntry) (i j : ℕ) (n : List ℕ) → n ≡ e.name → pairwise is_below es ≡ true → i ≡ prefix_len (λ b. is_before (key b) (key_of false n)) es → j ≡ prefix_len (λ b. is_before (key b) (key_of true n)) es
    → has_name e (slice_get es i) ≡ false → has_name e (slice_get es j) ≡ list_any (λ b. is_same b e) es
twins_else e es i j n same rising file folder none =
    sym (ap (λ (b : Bool). b || has_name e (slice_get es j)) none) ∙ twins e es i j rising (named e es i n false same file) (named e es j n true same folder)

-- the point where entries in order stop to come before a key
nobody : TreeEntry
nobody = record { mode = Plain; name = []; object = [] }

pub point_is : (es : List TreeEntry) (k : List ℕ) (n : ℕ) → n ≤ length es → IsPartitionPoint (λ b. is_before (key b) k ≡ true) (λ b. is_before (key b) k ≡ false) es n → n ≡ prefix_len (λ b. is_before (key b) k) es
point_is es k n most point = sym (prefix_len_is (λ b. is_before (key b) k) es n nobody most (λ i less. point.0 i nobody (omega arith) less) (λ less. point.1 n nobody (omega arith) less))
