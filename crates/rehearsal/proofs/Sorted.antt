-- The numbers of the paths in the order of the paths.
use Rattle.std.proofs.Common.{◌≡◌, ℕ, zero, suc, ◌+◌, ◌<◌, ◌≤◌, ◌%◌, ⊎_elim, ◌⊎◌, inl, inr, List, [], ◌∷◌, ◌++◌}
use Rattle.std.proofs.Common.{length, length-append, eq-eqb, ne_eqb, refl, sym, ap, subst, arith}
use Rattle.std.proofs.lemmas.List.{append-nil}
use Rattle.std.specs.List.{AllByRecursion}
use mathlib.Core.Logic.{dite}
use native.Mathlib.Decide.{ℕ_discrete}
use Rattle.rehearsal.specs.Paths.{ending_in, ending_below, in_order}

-- the one number comes before the other in the order of paths
abbrev pub Before : ℕ → ℕ → Type 0
Before i j = (i % 10 < j % 10) ⊎ ((i % 10 ≡ j % 10) × (i < j))

abbrev pub Sorted : List ℕ → Type 0
Sorted [] = Unit {0}
Sorted (i ∷ is) = AllByRecursion (Before i) is × Sorted is

pub all_append : (P : ℕ → Type 0) (xs ys : List ℕ) → AllByRecursion P xs → AllByRecursion P ys
    → AllByRecursion P (xs ++ ys)
all_append P [] ys a b = b
all_append P (x ∷ xs) ys a b = (a.0, all_append P xs ys a.1 b)

pub all_on : {P Q : ℕ → Type 0} → ((i : ℕ) → P i → Q i) → (xs : List ℕ) → AllByRecursion P xs
    → AllByRecursion Q xs
all_on f [] a = tt
all_on f (x ∷ xs) a = (f x a.0, all_on f xs a.1)

pub both : (P Q : ℕ → Type 0) (xs : List ℕ) → AllByRecursion P xs → AllByRecursion Q xs
    → AllByRecursion (λ i. P i × Q i) xs
both P Q [] a b = tt
both P Q (x ∷ xs) a b = ((a.0, b.0), both P Q xs a.1 b.1)

sorted_append : (xs ys : List ℕ) → Sorted xs → Sorted ys
    → AllByRecursion (λ x. AllByRecursion (Before x) ys) xs → Sorted (xs ++ ys)
sorted_append [] ys a b c = b
sorted_append (x ∷ xs) ys a b c = (all_append (Before x) xs ys a.0 c.0, sorted_append xs ys a.1 b c.1)

-- the number ends in the digit, and is then the last of those up to it that do
one_more : (d n : ℕ) → ((n % 10 ≡ d) × (ending_in d (suc n) ≡ ending_in d n ++ n ∷ []))
    ⊎ (((n % 10 ≡ d) → ⊥) × (ending_in d (suc n) ≡ ending_in d n))
one_more d n = dite (ℕ_discrete (n % 10) d)
    (λ same. inl (same, rw (eq-eqb (n % 10) d same) refl))
    (λ other. inr (other, rw (ne_eqb (n % 10) d other) (append-nil (ending_in d n))))

ending_all : (d n : ℕ) → AllByRecursion (λ i. (i % 10 ≡ d) × (i < n)) (ending_in d n)
ending_all d zero = tt
ending_all d (suc n) =
    let before = all_on {P = λ i. (i % 10 ≡ d) × (i < n)} {Q = λ i. (i % 10 ≡ d) × (i < suc n)}
    (λ i h. (h.0, omega (arith, h.1))) (ending_in d n) (ending_all d n) in
    ⊎_elim
    (λ (h : (n % 10 ≡ d) × (ending_in d (suc n) ≡ ending_in d n ++ n ∷ [])).
    subst (AllByRecursion (λ i. (i % 10 ≡ d) × (i < suc n))) (sym h.1)
    (all_append (λ i. (i % 10 ≡ d) × (i < suc n)) (ending_in d n) (n ∷ []) before ((h.0, omega arith), tt)))
    (λ (h : ((n % 10 ≡ d) → ⊥) × (ending_in d (suc n) ≡ ending_in d n)).
    subst (AllByRecursion (λ i. (i % 10 ≡ d) × (i < suc n))) (sym h.1) before)
    (one_more d n)

ending_sorted : (d n : ℕ) → Sorted (ending_in d n)
ending_sorted d zero = tt
ending_sorted d (suc n) = ⊎_elim
    (λ (h : (n % 10 ≡ d) × (ending_in d (suc n) ≡ ending_in d n ++ n ∷ [])).
    subst Sorted (sym h.1) (sorted_append (ending_in d n) (n ∷ []) (ending_sorted d n) (tt, tt)
    (all_on {P = λ i. (i % 10 ≡ d) × (i < n)} {Q = λ x. AllByRecursion (Before x) (n ∷ [])}
    (λ i k. (inr (omega (arith, k.0, h.0), k.1), tt)) (ending_in d n) (ending_all d n))))
    (λ (h : ((n % 10 ≡ d) → ⊥) × (ending_in d (suc n) ≡ ending_in d n)).
    subst Sorted (sym h.1) (ending_sorted d n))
    (one_more d n)

below_all : (d n : ℕ) → AllByRecursion (λ i. (i % 10 < d) × (i < n)) (ending_below d n)
below_all zero n = tt
below_all (suc d) n =
    all_append (λ i. (i % 10 < suc d) × (i < n)) (ending_below d n) (ending_in d n)
    (all_on {P = λ i. (i % 10 < d) × (i < n)} {Q = λ i. (i % 10 < suc d) × (i < n)}
    (λ i h. (omega (arith, h.0), h.1)) (ending_below d n) (below_all d n))
    (all_on {P = λ i. (i % 10 ≡ d) × (i < n)} {Q = λ i. (i % 10 < suc d) × (i < n)}
    (λ i h. (omega (arith, h.0), h.1)) (ending_in d n) (ending_all d n))

below_sorted : (d n : ℕ) → Sorted (ending_below d n)
below_sorted zero n = tt
below_sorted (suc d) n =
    sorted_append (ending_below d n) (ending_in d n) (below_sorted d n) (ending_sorted d n)
    (all_on {P = λ i. (i % 10 < d) × (i < n)} {Q = λ x. AllByRecursion (Before x) (ending_in d n)}
    (λ i h. all_on {P = λ j. (j % 10 ≡ d) × (j < n)} {Q = Before i} (λ j k. inl (omega (arith, h.0, k.0)))
    (ending_in d n) (ending_all d n))
    (ending_below d n) (below_all d n))

pub order_sorted : (n : ℕ) → Sorted (in_order n)
order_sorted n = below_sorted 10 n

pub order_small : (n : ℕ) → AllByRecursion (λ i. i < n) (in_order n)
order_small n = all_on {P = λ i. (i % 10 < 10) × (i < n)} {Q = λ i. i < n} (λ i h. h.1) (in_order n) (below_all 10 n)

-- each number stands there once at most
grows : (d n : ℕ) → (length (ending_below d (suc n)) ≤ length (ending_below d n) + 1)
    × ((d ≤ n % 10) → length (ending_below d (suc n)) ≤ length (ending_below d n))
grows zero n = (omega arith, λ h. omega arith)
grows (suc d) n =
    let h = grows d n in
    let new = length-append (ending_below d (suc n)) (ending_in d (suc n)) in
    let old = length-append (ending_below d n) (ending_in d n) in
    ⊎_elim
    (λ (k : (n % 10 ≡ d) × (ending_in d (suc n) ≡ ending_in d n ++ n ∷ [])).
    let more = ap length k.1 in
    let one = length-append (ending_in d n) (n ∷ []) in
    let less = h.1 (omega (arith, k.0)) in
    (omega (arith, new, old, more, one, less), λ far. absurd (omega (arith, far, k.0))))
    (λ (k : ((n % 10 ≡ d) → ⊥) × (ending_in d (suc n) ≡ ending_in d n)).
    let same = ap length k.1 in (
      omega (arith, new, old, same, h.0),
      λ far. let less = h.1 (omega (arith, far)) in omega (arith, new, old, same, less),
    ))
    (one_more d n)

none_below : (d : ℕ) → length (ending_below d 0) ≡ 0
none_below zero = refl
none_below (suc d) = omega (arith, length-append (ending_below d 0) (ending_in d 0), none_below d)

pub order_short : (n : ℕ) → length (in_order n) ≤ n
order_short zero = omega (arith, none_below 10)
order_short (suc n) = omega (arith, (grows 10 n).0, order_short n)
