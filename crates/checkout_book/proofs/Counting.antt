-- How many of the first flags are set.
use Rattle.std.proofs.Common.{◌≡◌, ℕ, zero, suc, ◌<◌, ◌≤◌, Bool, true, false, List, [], ◌∷◌, set, Some, refl, ap, arith}
use Rattle.std.specs.Prelude.{slice_get}
use Rattle.checkout_book.specs.Waitings.{set_below}

-- a flag among them that was clear is set now
pub one_more : (n : ℕ) (flags : List Bool) (p : ℕ) → slice_get flags p ≡ Some false → p < n
    → set_below n (set flags p true) ≡ suc (set_below n flags)
one_more zero flags p at lt = absurd (omega (arith, lt))
one_more (suc n) [] p at lt = absurd (cc (at))
one_more (suc n) (false ∷ flags) zero at lt = refl
one_more (suc n) (true ∷ flags) zero at lt = absurd (cc (at))
one_more (suc n) (false ∷ flags) (suc p) at lt = one_more n flags p at (omega (arith, lt))
one_more (suc n) (true ∷ flags) (suc p) at lt = ap suc (one_more n flags p at (omega (arith, lt)))

-- a flag among them that was set is clear now
pub one_fewer : (n : ℕ) (flags : List Bool) (p : ℕ) → slice_get flags p ≡ Some true → p < n
    → suc (set_below n (set flags p false)) ≡ set_below n flags
one_fewer zero flags p at lt = absurd (omega (arith, lt))
one_fewer (suc n) [] p at lt = absurd (cc (at))
one_fewer (suc n) (true ∷ flags) zero at lt = refl
one_fewer (suc n) (false ∷ flags) zero at lt = absurd (cc (at))
one_fewer (suc n) (false ∷ flags) (suc p) at lt = one_fewer n flags p at (omega (arith, lt))
one_fewer (suc n) (true ∷ flags) (suc p) at lt = ap suc (one_fewer n flags p at (omega (arith, lt)))

-- a flag after them doesn't count
pub as_many : (n : ℕ) (flags : List Bool) (p : ℕ) (b : Bool) → n ≤ p
    → set_below n (set flags p b) ≡ set_below n flags
as_many zero flags p b le = refl
as_many (suc n) [] p b le = refl
as_many (suc n) (x ∷ flags) zero b le = absurd (omega (arith, le))
as_many (suc n) (false ∷ flags) (suc p) b le = as_many n flags p b (omega (arith, le))
as_many (suc n) (true ∷ flags) (suc p) b le = ap suc (as_many n flags p b (omega (arith, le)))

pub at_most : (n : ℕ) (flags : List Bool) → set_below n flags ≤ n
at_most zero flags = omega arith
at_most (suc n) [] = omega arith
at_most (suc n) (false ∷ flags) = let h = at_most n flags in omega (arith, h)
at_most (suc n) (true ∷ flags) = let h = at_most n flags in omega (arith, h)
