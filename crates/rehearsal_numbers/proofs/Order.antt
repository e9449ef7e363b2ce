-- A count over the numbers in the order of their paths is the count over all of them.
use Rattle.std.proofs.Common.{◌≡◌, ℕ, zero, suc, ◌+◌, ◌<◌, ◌≤◌, ◌%◌, ◌⊎◌, inl, inr, ⊎_elim, Bool, [], ◌∷◌, ◌++◌, refl, ap, ◌∙◌, arith, eq-eqb, ne_eqb}
use Rattle.std.specs.Prelude.{sum_by, if◌then◌else◌}
use Rattle.std.specs.List.{range_with_len}
use Rattle.std.proofs.lemmas.List.Sums.{sum_by-cons, sum_by-append}
use mathlib.Core.Logic.{dite}
use native.Mathlib.Decide.{ℕ_discrete}
use Rattle.rehearsal.specs.Paths.{ending_in, ending_below, in_order}

module _ (f : ℕ → ℕ) where
  -- the last number is added to the numbers of its digit
  ending_more : (d n : ℕ) → ((n % 10 ≡ d) × (sum_by f (ending_in d (suc n)) ≡ sum_by f (ending_in d n) + f n))
      ⊎ (((n % 10 ≡ d) → ⊥) × (sum_by f (ending_in d (suc n)) ≡ sum_by f (ending_in d n)))
  ending_more d n = dite (ℕ_discrete (n % 10) d)
      (λ same. inl (
        same,
        ap (λ (t : Bool). sum_by f (ending_in d n ++ (if t then n ∷ [] else []))) (eq-eqb (n % 10) d same)
            ∙ sum_by-append f (ending_in d n) (n ∷ []) ∙ ap (λ (x : ℕ). sum_by f (ending_in d n) + x) (sum_by-cons f n [] ∙ one),
      ))
      (λ other. inr (
        other,
        ap (λ (t : Bool). sum_by f (ending_in d n ++ (if t then n ∷ [] else []))) (ne_eqb (n % 10) d other)
            ∙ sum_by-append f (ending_in d n) [] ∙ none,
      ))
    where
      one : f n + sum_by f [] ≡ f n
      one = omega arith

      none : sum_by f (ending_in d n) + sum_by f [] ≡ sum_by f (ending_in d n)
      none = omega arith

  below_more : (d n : ℕ) → ((n % 10 < d) → sum_by f (ending_below d (suc n)) ≡ sum_by f (ending_below d n) + f n)
      × ((d ≤ n % 10) → sum_by f (ending_below d (suc n)) ≡ sum_by f (ending_below d n))
  below_more zero n = (λ lt. absurd (omega (arith, lt)), λ le. refl)
  below_more (suc d) n =
      let h = below_more d n in
      let new = sum_by-append f (ending_below d (suc n)) (ending_in d (suc n)) in
      let old = sum_by-append f (ending_below d n) (ending_in d n) in
      ⊎_elim
      (λ (k : (n % 10 ≡ d) × (sum_by f (ending_in d (suc n)) ≡ sum_by f (ending_in d n) + f n)).
      let less = h.1 (omega (arith, k.0)) in
      (λ lt. omega (arith, new, old, k.1, less), λ le. absurd (omega (arith, le, k.0))))
      (λ (k : ((n % 10 ≡ d) → ⊥) × (sum_by f (ending_in d (suc n)) ≡ sum_by f (ending_in d n))). (
        λ lt. (let more = h.0 (below lt k.0) in omega (arith, new, old, k.1, more)),
        λ le. (let less = h.1 (omega (arith, le)) in omega (arith, new, old, k.1, less)),
      ))
      (ending_more d n)
    where
      below : n % 10 < suc d → (n % 10 ≡ d → ⊥) → n % 10 < d
      below lt other = omega (arith, lt, other)

  below_none : (d : ℕ) → sum_by f (ending_below d 0) ≡ 0
  below_none zero = refl
  below_none (suc d) = omega (arith, sum_by-append f (ending_below d 0) (ending_in d 0), below_none d)

  range_more : (a n : ℕ) → sum_by f (range_with_len a (suc n)) ≡ sum_by f (range_with_len a n) + f (a + n)
  range_more a zero =
      let same : f (a + 0) ≡ f a = ap f (omega arith) in
      omega (arith, same, sum_by-cons f a [])
  range_more a (suc n) =
      let same : f (a + 1 + n) ≡ f (a + suc n) = ap f (omega arith) in
      omega (arith, same, sum_by-cons f a (range_with_len (a + 1) (suc n)), sum_by-cons f a (range_with_len (a + 1) n), range_more (a + 1) n)

  last_digit : (n : ℕ) → n % 10 < 10
  last_digit n = omega arith

  pub in_any_order : (n : ℕ) → sum_by f (in_order n) ≡ sum_by f (range_with_len 0 n)
  in_any_order zero = below_none 10
  in_any_order (suc n) =
      let more = (below_more 10 n).0 (last_digit n) in
      let same : f (0 + n) ≡ f n = ap f (omega arith) in
      omega (arith, more, in_any_order n, range_more 0 n, same)
