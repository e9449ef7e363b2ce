-- A place of a list is below its length.
use Rattle.std.proofs.Common.{◌≡◌, ℕ, zero, suc, ◌<◌, List, [], ◌∷◌, length, Some, arith}
use Rattle.std.specs.Prelude.{slice_get}

module _ {A : Type 0} where
  pub in_range : (xs : List A) (i : ℕ) (x : A) → slice_get xs i ≡ Some x → i < length xs
  in_range [] i x e = absurd (cc (e))
  in_range (y ∷ xs) zero x e = omega arith
  in_range (y ∷ xs) (suc i) x e = let h = in_range xs i x e in omega arith
