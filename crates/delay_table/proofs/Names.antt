-- A name in a list of names that rise.
use Rattle.std.proofs.Common.{◌≡◌, ℕ, zero, suc, ◌+◌, ◌<◌, ◌≤◌, Bool, true, false, List, [], ◌∷◌, length, get_or, Some}
use Rattle.std.proofs.Common.{refl, sym, ap, ◌∙◌, subst, arith}
use Rattle.std.specs.Prelude.{slice_get}
use Rattle.std.specs.Cmp.{IsStrictWeakOrder}
use Rattle.std.proofs.lemmas.Cmp.{nat_list_cmp_total}
use Rattle.std.proofs.lemmas.List.Sorted.{ranks_by, sorted_far}
use Rattle.std.specs.List.Sorted.{IsPartitionedBy, IsPartitionPoint}
use mathlib.Core.Logic.{dite}
use native.Mathlib.Decide.{ℕ_discrete, dec_lt}
use Rattle.delay_table.specs.Table.{stands_before, IsRising}

ranks : IsStrictWeakOrder stands_before
ranks = ranks_by nat_list_cmp_total (λ n. n)

-- a rising list never falls
never_falls : (names : List (List ℕ)) → IsRising names → (i j : ℕ) (d : List ℕ) → i ≤ j → j < length names
    → stands_before (get_or names j d) (get_or names i d) ≡ false
never_falls names rise i j d le lt =
    sorted_far stands_before ranks names
    (λ k e low more. ranks.one_way (get_or names k e) (get_or names (k + 1) e) (rise k e more)) i j d le lt

true_false : (b : Bool) → b ≡ true → b ≡ false → ⊥
true_false b t f = let e : true ≡ false = sym t ∙ f in cc (e)

is_true : (b : Bool) → (b ≡ false → ⊥) → b ≡ true
is_true true h = refl
is_true false h = absurd (h refl)

-- each later name comes after each earlier one
rises_far : (names : List (List ℕ)) → IsRising names → (i j : ℕ) (d : List ℕ) → i < j → j < length names
    → stands_before (get_or names i d) (get_or names j d) ≡ true
rises_far names rise i j d lt more = is_true (stands_before (get_or names i d) (get_or names j d)) (λ no.
    true_false (stands_before (get_or names i d) (get_or names (i + 1) d)) (rise i d (omega arith))
    (ranks.chain (get_or names i d) (get_or names j d) (get_or names (i + 1) d) no
    (never_falls names rise (i + 1) j d (omega arith) more)))

abbrev pub before : List ℕ → List ℕ → Bool
before name other = stands_before other name

pub parted : (name : List ℕ) (names : List (List ℕ)) → IsRising names → IsPartitionedBy (before name) names
parted name names rise i j d le lt is = is_true (stands_before (get_or names i d) name) (λ no.
    true_false (stands_before (get_or names j d) name) is
    (ranks.chain (get_or names j d) (get_or names i d) name (never_falls names rise i j d le lt) no))

at_get : (names : List (List ℕ)) (p : ℕ) (name : List ℕ) → slice_get names p ≡ Some name → (p < length names)
    × ((d : List ℕ) → get_or names p d ≡ name)
at_get [] p name at = absurd (cc (at))
at_get (x ∷ xs) zero name at = (omega arith, λ d. cc (at))
at_get (x ∷ xs) (suc p) name at = let r = at_get xs p name at in let lt = r.0 in (omega arith, r.1)

-- the name is at the first place whose name doesn't come before it, or nowhere
pub nowhere_else : (name : List ℕ) (names : List (List ℕ)) (i : ℕ) → IsRising names
    → IsPartitionPoint (λ other. before name other ≡ true) (λ other. before name other ≡ false) names i
    → (slice_get names i ≡ Some name → ⊥) → (p : ℕ) → slice_get names p ≡ Some name → ⊥
nowhere_else name names i rise point not_here p at =
    let g = at_get names p name at in
    let is : get_or names p name ≡ name = g.1 name in
    let same_no : stands_before name name ≡ false = dark name in
    dite (dec_lt p i)
    (λ lower. true_false (stands_before name name)
    (subst (λ x. stands_before x name ≡ true) is (point.0 p name (omega (arith, g.0)) lower)) same_no)
    (λ not_lower. dite (ℕ_discrete p i)
    (λ same. not_here (subst (λ (k : ℕ). slice_get names k ≡ Some name) same at))
    (λ apart.
    let more : i < p = omega arith in
    let here : stands_before (get_or names i name) name ≡ false = point.1 i name (omega arith) (omega (arith, g.0)) in
    true_false (stands_before (get_or names i name) name)
    (subst (λ x. stands_before (get_or names i name) x ≡ true) is (rises_far names rise i p name more g.0)) here))
  where
    dark : (n : List ℕ) → stands_before n n ≡ false
    dark n = is_false (stands_before n n) (ranks.one_way n n)
      where
        is_false : (b : Bool) → (b ≡ true → b ≡ false) → b ≡ false
        is_false true h = h refl
        is_false false h = refl

-- the name at a place
pub there_is : (names : List (List ℕ)) (i : ℕ) (name : List ℕ) → i < length names → get_or names i name ≡ name
    → slice_get names i ≡ Some name
there_is [] i name lt is = absurd (omega arith)
there_is (x ∷ xs) zero name lt is = ap (λ n. Some n) is
there_is (x ∷ xs) (suc i) name lt is = there_is xs i name (omega arith) is

pub not_there : (names : List (List ℕ)) (i : ℕ) (name other : List ℕ) → other ≡ get_or names i other
    → (other ≡ name → ⊥) → slice_get names i ≡ Some name → ⊥
not_there names i name other is apart at = apart (is ∙ (at_get names i name at).1 other)

pub past_all : (names : List (List ℕ)) (i : ℕ) (name : List ℕ) → length names ≤ i → slice_get names i ≡ Some name → ⊥
past_all names i name le at = let g = (at_get names i name at).0 in absurd (omega arith)

-- no two places have the same name
pub one_place : (names : List (List ℕ)) → IsRising names → (name : List ℕ) (p q : ℕ) → slice_get names p ≡ Some name
    → slice_get names q ≡ Some name → q ≡ p
one_place names rise name p q at at2 =
    let a = at_get names p name at in let b = at_get names q name at2 in
    dite (ℕ_discrete q p)
    (λ same. same)
    (λ apart. absurd (dite (dec_lt q p)
    (λ lower. clash q p lower (b.1 name) (a.1 name) a.0)
    (λ not_lower. clash p q (omega arith) (a.1 name) (b.1 name) b.0)))
  where
    clash : (i j : ℕ) → i < j → get_or names i name ≡ name → get_or names j name ≡ name → j < length names → ⊥
    clash i j lt first second more =
        let up = rises_far names rise i j name lt more in
        let self : stands_before name name ≡ true =
        subst (λ x. stands_before x name ≡ true) first
        (subst (λ x. stands_before (get_or names i name) x ≡ true) second up) in
        true_false (stands_before name name) self (ranks.one_way name name self)
