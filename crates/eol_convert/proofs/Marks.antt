-- What a search of bytes says of a list.
use Rattle.std.proofs.Common.{◌≡◌, ℕ, suc, ◌<◌, ◌≤◌, Bool, true, false, List, [], ◌∷◌, length, get_or, Option, Some, None, is_some, refl, sym, arith}
use Rattle.std.proofs.lemmas.Bool.{false_from_ne_true, or_from}
use Rattle.std.proofs.lemmas.List.Folds.{list_any_at}
use Rattle.std.specs.List.{list_any}
use Rattle.memchr.specs.Find.{IsFirstByte}

-- no byte passes
list_any-nowhere : (p : ℕ → Bool) (xs : List ℕ) → ((k : ℕ) → 0 ≤ k → k < length xs → p (get_or xs k 0) ≡ true → ⊥) → list_any p xs ≡ false
list_any-nowhere p [] none = refl
list_any-nowhere p (x ∷ xs) none =
    or_from (p x) (list_any p xs) (false_from_ne_true (p x) (none 0 (omega arith) (omega arith)))
    (list_any-nowhere p xs (λ k low high. none (suc k) (omega arith) (omega arith)))

-- a first byte is found exactly if some byte passes
pub is_some-first : (p : ℕ → Bool) (xs : List ℕ) (r : Option ℕ) → IsFirstByte p xs r → is_some r ≡ list_any p xs
is_some-first p xs None none = sym (list_any-nowhere p xs none)
is_some-first p xs (Some k) found = sym (list_any_at p xs k 0 found.0.high found.1)
