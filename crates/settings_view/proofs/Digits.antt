-- Digits at the front of a text, and their number.
use Rattle.std.proofs.Common.{◌≡◌, ℕ, suc, ◌+◌, ◌*◌, ◌^◌, ◌<◌, ◌≤◌, Bool, true, false, not, cond, ltb, List, [], ◌∷◌, length, get_or, take, Some, None, refl, arith, rules}
use Rattle.std.proofs.lemmas.Grind.{common_steps}
use Rattle.std.proofs.lemmas.List.Sums.{prefix_len-le-length}
use Rattle.std.proofs.lemmas.Int.Digits.{digits_value_more}
use Rattle.std.proofs.lemmas.Str.Parse.{IsNumeralModel, numerals_by_value, digits_value_short, digits_value-take-le}
use Rattle.std.specs.Char.{digit_value, is_ascii_digit}
use Rattle.std.specs.List.{list_all, prefix_len, position}
use Rattle.std.specs.Option.{unwrap_or}
use Rattle.std.specs.Str.Parse.{digits_value}

digits_own : IsNumeralModel (λ ds. list_all is_ascii_digit ds ≡ true) (digits_value 10)
digits_own = numerals_by_value _ (search rules)

-- up to 18 digits give a number below 10^18
pub value_short : (ds : List ℕ) → list_all is_ascii_digit ds ≡ true → length ds ≤ 18 → digits_value 10 ds < 10 ^ 18
value_short ds digits few = digits_value_short digits_own ds 18 digits few

-- with one digit more the number is at most that of all digits
pub value_step : (ds : List ℕ) (i : ℕ) → i < length ds → digits_value 10 (take i ds) * 10 + digit_value (get_or ds i 0) ≤ digits_value 10 ds
value_step ds i lt = omega (arith, digits_value_more 10 ds i lt, digits_value-take-le 10 ds (i + 1) (omega arith))

front_step : (b : ℕ) (text : List ℕ) (n : ℕ) (t : Bool) → is_ascii_digit b ≡ t → list_all is_ascii_digit (take n text) ≡ true → list_all is_ascii_digit (take (cond t (1 + n) 0) (b ∷ text)) ≡ true
front_step b text n true is later = let next : 1 + n ≡ suc n = omega arith in rw (next, is) later
front_step b text n false is later = refl

pub prefix_len-digits : (text : List ℕ) → list_all is_ascii_digit (take (prefix_len is_ascii_digit text) text) ≡ true
prefix_len-digits [] = refl
prefix_len-digits (b ∷ text) = front_step b text (prefix_len is_ascii_digit text) (is_ascii_digit b) refl (prefix_len-digits text)

-- the place of the first byte that isn't a digit
same : (text : List ℕ) → prefix_len (λ b. not (not (is_ascii_digit b))) text ≡ prefix_len is_ascii_digit text
same [] = refl
same (b ∷ text) = grind (arith, common_steps, same text)

place_step : (n len : ℕ) → n ≤ len → unwrap_or (cond (ltb n len) (Some n) None) len ≡ n
place_step n len le = grind (arith, common_steps)

pub prefix_len-is : (text : List ℕ) → unwrap_or (position (λ b. not (is_ascii_digit b)) text) (length text) ≡ prefix_len is_ascii_digit text
prefix_len-is text =
    let e : prefix_len (λ b. not (not (is_ascii_digit b))) text ≡ prefix_len is_ascii_digit text = same text in
    rw e (place_step (prefix_len is_ascii_digit text) (length text) (prefix_len-le-length is_ascii_digit text))
