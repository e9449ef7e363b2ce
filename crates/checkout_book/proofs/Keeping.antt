-- Which of the paths that were looked at wait.
use Rattle.std.proofs.Common.{◌≡◌, ℕ, zero, suc, ◌+◌, ◌<◌, ◌≤◌, ◌^◌, ◌⊎◌, inl, inr, ⊎_elim, Bool, true, false, List}
use Rattle.std.proofs.Common.{[], ◌∷◌}
use Rattle.std.proofs.Common.{set, length, length-set, Option, Some, refl, sym, ap, ◌∙◌, subst, arith, All}
use Rattle.std.specs.Prelude.{◌-◌, slice_get, slice_index_or}
use mathlib.Core.Logic.{dite}
use native.Mathlib.Decide.{ℕ_discrete}
use Rattle.std.specs.List.{Contains}
use Rattle.std.specs.List.Sorted.{IsPermutation}
use Rattle.std.specs.Ordering.{nat_cmp}
use Rattle.std.specs.BinaryHeap.{IsHeap, IsUpperBound}
use Rattle.std.proofs.lemmas.List.Elements.{All-nil, All-cons, All-head, All-tail}
use Rattle.std.proofs.lemmas.List.Sorted.{All-permutation, Contains-permutation, le_from_greatest}
use Rattle.std.proofs.lemmas.List.Sorted.{length_permutation}
use Rattle.checkout_book.specs.Waitings.{NoneBelow, NoneIs, IsLowest, IsKept}
use Rattle.checkout_book.proofs.Counting.{one_more, one_fewer, as_many, at_most}

get_set_same : {A : Type 0} (xs : List A) (i : ℕ) (y : A) → i < length xs → slice_get (set xs i y) i ≡ Some y
get_set_same [] i y l = absurd (omega arith)
get_set_same (x ∷ xs) zero y l = refl
get_set_same (x ∷ xs) (suc i) y l = get_set_same xs i y (omega arith)

get_set_other : {A : Type 0} (xs : List A) (i j : ℕ) (y : A) → (j ≡ i → ⊥) → slice_get (set xs i y) j ≡ slice_get xs j
get_set_other [] i j y n = refl
get_set_other (x ∷ xs) zero zero y n = absurd (n refl)
get_set_other (x ∷ xs) zero (suc j) y n = refl
get_set_other (x ∷ xs) (suc i) zero y n = refl
get_set_other (x ∷ xs) (suc i) (suc j) y n = get_set_other xs i j y (λ e. n (ap suc e))

contains_cons : (x : ℕ) (xs : List ℕ) (y : ℕ) → Contains (x ∷ xs) y → (x ≡ y) ⊎ Contains xs y
contains_cons x xs y c = go c.0 c.1 c.2
  where
    go : (k : ℕ) → k < length (x ∷ xs) → slice_index_or (x ∷ xs) k y ≡ y
        → (x ≡ y) ⊎ Contains xs y
    go zero l e = inl e
    go (suc k) l e = inr (k, omega arith, e)

contains_none : {A : Type 0} (y : ℕ) → Contains [] y → A
contains_none y c = absurd (let l = c.1 in omega (arith, l))

contains_first : (x : ℕ) (xs : List ℕ) → Contains (x ∷ xs) x
contains_first x xs = (zero, omega arith, refl)

contains_more : (x : ℕ) (xs : List ℕ) (y : ℕ) → Contains xs y → Contains (x ∷ xs) y
contains_more x xs y c = (suc c.0, omega (arith, c.1), c.2)

all_of : (P : ℕ → Type 0) (xs : List ℕ) (x : ℕ) → All P xs → Contains xs x → P x
all_of P xs x all c = subst P c.2 (all c.0 x c.1)

true_false : {A : Type 0} (o : Option Bool) → o ≡ Some true → o ≡ Some false → A
true_false o a b = absurd (cc (a, b))

abbrev Below : ℕ → ℕ → Type 0
Below next k = (k ≤ 4294967295) × (4294967295 < k + next)

-- the popped path doesn't wait
pub passed_over : (flags : List Bool) (next : ℕ) (heap rest : List ℕ) (k : ℕ) → IsKept flags next heap
    → IsPermutation heap (k ∷ rest) → IsHeap nat_cmp rest → slice_get flags (4294967295 - k) ≡ Some false
    → IsKept flags next rest
passed_over flags next heap rest k kept perm ordered flag =
    let head = All-head (Below next) k rest (All-permutation (Below next) heap (k ∷ rest) perm kept.below) in
    let p : ℕ = 4294967295 - k in
    let sum : p + k ≡ 4294967295 = omega (arith, head.0) in
    record {
      few = kept.few;
      looked = kept.looked;
      ordered = ordered;
      below = All-tail (Below next) k rest (All-permutation (Below next) heap (k ∷ rest) perm kept.below);
      counted = omega (arith, length_permutation heap (k ∷ rest) perm, kept.counted);
      all = λ q j lt s at. ⊎_elim
          (λ (e : k ≡ j). let same : q ≡ p = omega (arith, e, sum, s) in
          true_false (slice_get flags p) (ap (slice_get flags) (sym same) ∙ at) flag)
          (λ (c : Contains rest j). c)
          (contains_cons k rest j (Contains-permutation heap (k ∷ rest) j perm (kept.all q j lt s at)));
    }

-- the popped path is the lowest that waits
pub record Lowest (flags : List Bool) (next p : ℕ) (rest : List ℕ) : Type 0 where
  pub within : p < next
  pub lowest : IsLowest flags p
  pub kept : IsKept (set flags p false) next rest

pub lowest_popped : (flags : List Bool) (next : ℕ) (heap rest : List ℕ) (k : ℕ) → IsKept flags next heap
    → IsPermutation heap (k ∷ rest) → IsHeap nat_cmp rest → IsUpperBound nat_cmp k heap
    → slice_get flags (4294967295 - k) ≡ Some true → Lowest flags next (4294967295 - k) rest
lowest_popped flags next heap rest k kept perm ordered greatest flag =
    let all = All-permutation (Below next) heap (k ∷ rest) perm kept.below in
    let head = All-head (Below next) k rest all in
    let p : ℕ = 4294967295 - k in
    let sum : p + k ≡ 4294967295 = omega (arith, head.0) in
    let lt : p < next = omega (arith, head.1, sum) in
    let there : p < length flags = omega (arith, lt, kept.looked) in
    record {
      within = lt;
      lowest = (flag, none p sum lt);
      kept = record {
        few = omega (arith, length-set flags p false, kept.few);
        looked = omega (arith, length-set flags p false, kept.looked);
        ordered = ordered;
        below = All-tail (Below next) k rest all;
        counted =
            omega (arith, length_permutation heap (k ∷ rest) perm, kept.counted, one_fewer next flags p flag lt);
        all = λ q j l s at. dite (ℕ_discrete q p)
            (λ same. true_false (slice_get (set flags p false) p) (ap (slice_get (set flags p false)) (sym same) ∙ at)
            (get_set_same flags p false there))
            (λ other. ⊎_elim
            (λ (e : k ≡ j). absurd (other (omega (arith, e, sum, s))))
            (λ (c : Contains rest j). c)
            (contains_cons k rest j (Contains-permutation heap (k ∷ rest) j perm
            (kept.all q j l s (sym (get_set_other flags p q false other) ∙ at)))));
      };
    }
  where
    none : (p : ℕ) → p + k ≡ 4294967295 → p < next → NoneBelow flags p
    none p sum lt q false l at = refl
    none p sum lt q true l at =
        let j : ℕ = 4294967295 - q in
        let s : q + j ≡ 4294967295 = omega (arith, l, sum) in
        let le = all_of (λ y. y ≤ k) heap j (le_from_greatest k heap greatest) (kept.all q j (omega (arith, l, lt)) s
        at) in
        absurd (omega (arith, le, s, sum, l))

-- a path that comes back, and one that is still to be looked at
pub came_back : (flags : List Bool) (next : ℕ) (heap more : List ℕ) (k p : ℕ) → IsKept flags next heap
    → IsPermutation (k ∷ heap) more → IsHeap nat_cmp more → p + k ≡ 4294967295 → p < next
    → slice_get flags p ≡ Some false → IsKept (set flags p true) next more
came_back flags next heap more k p kept perm ordered sum lt clear = record {
  few = omega (arith, length-set flags p true, kept.few);
  looked = omega (arith, length-set flags p true, kept.looked);
  ordered = ordered;
  below = All-permutation (Below next) (k ∷ heap) more perm
      (All-cons (Below next) k heap (omega (arith, sum), omega (arith, sum, lt)) kept.below);
  counted =
      omega (arith, length_permutation (k ∷ heap) more perm, kept.counted, one_more next flags p clear lt);
  all = λ q j l s at. dite (ℕ_discrete q p)
      (λ same. let e : j ≡ k = omega (arith, same, s, sum) in
      subst (Contains more) (sym e) (Contains-permutation (k ∷ heap) more k perm (contains_first k heap)))
      (λ other. Contains-permutation (k ∷ heap) more j perm (contains_more k heap j
      (kept.all q j l s (sym (get_set_other flags p q true other) ∙ at))));
}

pub comes_later : (flags : List Bool) (next : ℕ) (heap : List ℕ) (p : ℕ) → IsKept flags next heap → next ≤ p
    → IsKept (set flags p true) next heap
comes_later flags next heap p kept le = record {
  few = omega (arith, length-set flags p true, kept.few);
  looked = omega (arith, length-set flags p true, kept.looked);
  ordered = kept.ordered;
  below = kept.below;
  counted = omega (arith, kept.counted, as_many next flags p true le);
  all = λ q j l s at. kept.all q j l s (sym (get_set_other flags p q true (λ e. omega (arith, e, l, le))) ∙ at);
}

-- before a path comes back, fewer came back than were looked at
pub fewer_back : (flags : List Bool) (next : ℕ) (heap : List ℕ) (p : ℕ) → IsKept flags next heap → p < next
    → slice_get flags p ≡ Some false → length heap < length flags
fewer_back flags next heap p kept lt clear = omega (
  arith,
  kept.counted,
  kept.looked,
  one_more next flags p clear lt,
  at_most next (set flags p true),
)

-- where none came back, none that was looked at waits
looked_none : (flags : List Bool) (next : ℕ) → IsKept flags next [] → NoneBelow flags next
looked_none flags next kept q false l at = refl
looked_none flags next kept q true l at =
    let few : length flags < 2 ^ 32 = kept.few in
    let j : ℕ = 4294967295 - q in
    let s : q + j ≡ 4294967295 = omega (arith, l, kept.looked, few) in
    contains_none j (kept.all q j l s at)

pub first_found : (flags : List Bool) (next found : ℕ) → IsKept flags next []
    → ((p : ℕ) → next ≤ p → p < found → slice_get flags p ≡ Some false) → NoneBelow flags found
first_found flags next found kept before q b l at = ⊎_elim
    (λ (h : q < next). looked_none flags next kept q b h at)
    (λ (h : next ≤ q). let e : Some b ≡ Some false = sym at ∙ before q h l in cc (e))
    (lt_or q next)
  where
    lt_or : (m n : ℕ) → (m < n) ⊎ (n ≤ m)
    lt_or m n = search (arith)

pub looked_on : (flags : List Bool) (next found : ℕ) → IsKept flags next [] → found ≤ length flags
    → NoneBelow flags found → IsKept flags found []
looked_on flags next found kept le none = record {
  few = kept.few;
  looked = le;
  ordered = kept.ordered;
  below = All-nil (Below found);
  counted = omega arith;
  all = λ q j l s at. true_false (slice_get flags q) at (at ∙ ap (λ b. Some b) (none q true l at));
}

pub none_at_end : (flags : List Bool) → NoneBelow flags (length flags) → NoneIs flags
none_at_end flags none p b at = none p b (there flags p b at) at
  where
    there : (xs : List Bool) (i : ℕ) (x : Bool) → slice_get xs i ≡ Some x → i < length xs
    there [] i x e = absurd (cc (e))
    there (y ∷ xs) zero x e = omega arith
    there (y ∷ xs) (suc i) x e = let h = there xs i x e in omega arith

-- the first that was never looked at
pub taken_next : (flags : List Bool) (next found : ℕ) → IsKept flags next [] → found < length flags
    → NoneBelow flags found → IsKept (set flags found false) found []
taken_next flags next found kept lt none = record {
  few = omega (arith, length-set flags found false, kept.few);
  looked = omega (arith, length-set flags found false, lt);
  ordered = kept.ordered;
  below = All-nil (Below found);
  counted = omega arith;
  all = λ q j l s at.
      let old : slice_get flags q ≡ Some true = sym (get_set_other flags found q false (λ e. omega (arith, e, l))) ∙
      at in
      true_false (slice_get flags q) old (old ∙ ap (λ b. Some b) (none q true l old));
}

pub popped_within : (flags : List Bool) (next : ℕ) (heap rest : List ℕ) (k : ℕ) → IsKept flags next heap
    → IsPermutation heap (k ∷ rest) → 4294967295 - k < length flags
popped_within flags next heap rest k kept perm =
    let head = All-head (Below next) k rest (All-permutation (Below next) heap (k ∷ rest) perm kept.below) in
    omega (arith, head.0, head.1, kept.looked)
