-- The place of the first byte that passes a test.
use Rattle.std.proofs.Common.{◌≡◌, ℕ, ◌≤◌, Bool, not, List, length, refl, inl, inr, arith}
use Rattle.std.proofs.lemmas.Bool.{cases_lt, lt-ltb, le-ltb}
use Rattle.std.proofs.lemmas.List.Sums.{prefix_len-le-length}
use Rattle.std.specs.List.{position, position_or_len}
use Rattle.std.specs.Option.{unwrap_or}

position_or_len-le : (p : ℕ → Bool) (xs : List ℕ) → position_or_len p xs ≤ length xs
position_or_len-le p xs = prefix_len-le-length (λ x. not (p x)) xs

pub len_from_position : (p : ℕ → Bool) (xs : List ℕ) → unwrap_or (position p xs) (length xs) ≡ position_or_len p xs
len_from_position p xs = elim (cases_lt (position_or_len p xs) (length xs)) [
  | inl below ↦ rw (lt-ltb (position_or_len p xs) (length xs) below) refl
  | inr above ↦ rw (le-ltb (position_or_len p xs) (length xs) above) (omega (arith, position_or_len-le p xs))
]
