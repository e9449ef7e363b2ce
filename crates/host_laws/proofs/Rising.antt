-- Lists of numbers that rise.
use Rattle.std.proofs.Common.{◌≡◌, ◌==◌, ◌<◌, ℕ, zero, suc, Bool, true, false, cond, List, [], ◌∷◌, Some, refl, sym, ap, arith}
use Rattle.std.specs.Prelude.{slice_get}
use Rattle.std.proofs.lemmas.Bool.{eqb-true}
use Rattle.delay_table.specs.Table.{contains, AreApart}

abbrev pub IsRising : List ℕ → Type 0
IsRising xs = (i j m n : ℕ) → i < j → slice_get xs i ≡ Some m → slice_get xs j ≡ Some n → m < n

contains_at : (p : ℕ) (xs : List ℕ) → contains p xs ≡ true → (i : ℕ) × (slice_get xs i ≡ Some p)
contains_at p [] is = absurd cc
contains_at p (q ∷ qs) is = by (p == q) refl is (contains_at p qs)
  where
    by : (b : Bool) → (p == q) ≡ b → cond b true (contains p qs) ≡ true → (contains p qs ≡ true → (i : ℕ) × (slice_get qs i ≡ Some p))
        → (i : ℕ) × (slice_get (q ∷ qs) i ≡ Some p)
    by true e is behind = (zero, ap Some (sym (eqb-true p q e)))
    by false e is behind = let r = behind is in (suc r.0, r.1)

not_behind : (x : ℕ) (xs : List ℕ) → IsRising (x ∷ xs) → (b : Bool) → contains x xs ≡ b → b ≡ false
not_behind x xs rise false e = refl
not_behind x xs rise true e =
    let at = contains_at x xs e in
    let no : x < x = rise zero (suc at.0) x x (omega arith) refl at.1 in absurd (omega (arith, no))

-- numbers that rise differ
pub apart : (xs : List ℕ) → IsRising xs → AreApart xs
apart [] rise = tt
apart (x ∷ xs) rise =
    (not_behind x xs rise (contains x xs) refl, apart xs (λ i j m n less a b. rise (suc i) (suc j) m n (omega (arith, less)) a b))
