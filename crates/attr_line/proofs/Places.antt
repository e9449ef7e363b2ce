-- The place of a byte that passes a test.
use Rattle.std.proofs.Common.{◌≡◌, ℕ, Bool, true, false, not, cond, ltb, ◌||◌, ◌+◌, suc, List, [], ◌∷◌, length, refl, ◌∙◌, sym, inl, inr, arith}
use Rattle.std.proofs.lemmas.Bool.{cases_lt, lt-ltb, le-ltb}
use Rattle.std.specs.List.{list_any, position_or_len}

below_next : (n m : ℕ) → ltb (1 + n) (suc m) ≡ ltb n m
below_next n m = elim (cases_lt n m) [
  | inl below ↦ rw (lt-ltb n m below) (lt-ltb (1 + n) (suc m) (omega arith))
  | inr above ↦ rw (le-ltb n m above) (le-ltb (1 + n) (suc m) (omega arith))
]

any_one : (b any : Bool) (n m : ℕ) → any ≡ ltb n m → (b || any) ≡ ltb (cond (not b) (1 + n) 0) (suc m)
any_one true any n m later = sym (lt-ltb 0 (suc m) (omega arith))
any_one false any n m later = later ∙ sym (below_next n m)

-- some byte passes exactly if the first such place is within the text
pub list_any-place : (p : ℕ → Bool) (xs : List ℕ) → list_any p xs ≡ ltb (position_or_len p xs) (length xs)
list_any-place p [] = refl
list_any-place p (x ∷ xs) = any_one (p x) (list_any p xs) (position_or_len p xs) (length xs) (list_any-place p xs)

pub ruleset values = list_any-place
