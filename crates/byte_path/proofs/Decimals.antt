-- Decimals, their numbers, and the limit of a reading.
use Rattle.std.proofs.Common.{◌≡◌, ℕ, zero, suc, ◌+◌, ◌*◌, ◌^◌, ◌<◌, ◌≤◌, true, List, length, get_or, take, Some, None, refl, sym, ap, ◌∙◌, arith, rules}
use Rattle.std.proofs.lemmas.Grind.{common_steps}
use Rattle.std.proofs.lemmas.Fmt.{digits_decimal, digits_value-decimal, decimal_nonempty, decimal_digit, first_decimal, decimal-digits_value}
use Rattle.std.proofs.lemmas.Int.Digits.{digits_value_more}
use Rattle.std.proofs.lemmas.Str.Parse.{IsNumeralModel, numerals_by_value, digits_value-take-le}
use Rattle.std.specs.Char.{digit_value, is_ascii_digit}
use Rattle.std.specs.Fmt.{decimal}
use Rattle.std.specs.List.{list_all}
use Rattle.std.specs.Str.Parse.{digits_value}
use Rattle.byte_path.specs.Decimal.{is_decimal, decimal_within}

-- if the first digits reach a limit, so do all digits
pub digits_value-above : (ds : List ℕ) (i limit : ℕ) → i < length ds → limit ≤ digits_value 10 (take i ds) * 10 + digit_value (get_or ds i 0) → limit ≤ digits_value 10 ds
digits_value-above ds i limit lt above = omega (arith, digits_value_more 10 ds i lt, digits_value-take-le 10 ds (i + 1) (omega arith))

-- digits and their number, as std's lemmas state them
pub digits_own : IsNumeralModel (λ ds. list_all is_ascii_digit ds ≡ true) (digits_value 10)
digits_own = numerals_by_value _ (search rules)

is_decimal-from : (ds : List ℕ) → 0 < length ds → list_all is_ascii_digit ds ≡ true → 48 < get_or ds 0 0 → is_decimal ds ≡ true
is_decimal-from ds some digits first = grind (arith, common_steps)

pub is_decimal-decimal : (n : ℕ) → n < 2 ^ 64 → is_decimal (decimal n) ≡ true
is_decimal-decimal zero small = rw (decimal_digit 0 (omega arith)) refl
is_decimal-decimal (suc n) small =
    is_decimal-from (decimal (suc n)) (decimal_nonempty (suc n) small) (digits_decimal digits_own (suc n) small) (first_decimal (suc n) (omega arith) small)

pub digits_value-of_decimal : (n : ℕ) → n < 2 ^ 64 → digits_value 10 (decimal n) ≡ n
digits_value-of_decimal n small = digits_value-decimal digits_own n small

within-right : (ds : List ℕ) (n most : ℕ) → is_decimal ds ≡ true → digits_value 10 ds ≡ n → n ≤ most → decimal_within ds most ≡ Some n
within-right ds n most right value low = grind (arith, common_steps)

pub decimal_within-decimal : (n most : ℕ) → n < 2 ^ 64 → n ≤ most → decimal_within (decimal n) most ≡ Some n
decimal_within-decimal n most small low = within-right (decimal n) n most (is_decimal-decimal n small) (digits_value-of_decimal n small) low

pub within-above : (ds : List ℕ) (most : ℕ) → most < digits_value 10 ds → decimal_within ds most ≡ None
within-above ds most above = grind (arith, common_steps)

-- the parts of `is_decimal`
is_decimal-some : (ds : List ℕ) → is_decimal ds ≡ true → 0 < length ds
is_decimal-some ds right = grind (arith, common_steps)

pub is_decimal-digits : (ds : List ℕ) → is_decimal ds ≡ true → list_all is_ascii_digit ds ≡ true
is_decimal-digits ds right = grind (arith, common_steps)

is_decimal-first : (ds : List ℕ) → is_decimal ds ≡ true → get_or ds 0 0 ≡ 48 → length ds ≡ 1
is_decimal-first ds right zero_first = grind (arith, common_steps)

-- a decimal is the text that is written for its number
pub decimal-of_its_number : (ds : List ℕ) → is_decimal ds ≡ true → digits_value 10 ds < 2 ^ 64 → decimal (digits_value 10 ds) ≡ ds
decimal-of_its_number ds right small =
    decimal-digits_value digits_own ds (is_decimal-digits ds right) (is_decimal-some ds right) (is_decimal-first ds right) small

within-parts : (ds : List ℕ) (most n : ℕ) → decimal_within ds most ≡ Some n → (is_decimal ds ≡ true) × (digits_value 10 ds ≡ n) × (n ≤ most)
within-parts ds most n is = grind (arith, common_steps)

pub decimal_within-is : (ds : List ℕ) (most n : ℕ) → most < 2 ^ 64 → decimal_within ds most ≡ Some n → ds ≡ decimal n
decimal_within-is ds most n small is =
    let parts : (is_decimal ds ≡ true) × (digits_value 10 ds ≡ n) × (n ≤ most) = within-parts ds most n is in
    sym (ap decimal (sym parts.1) ∙ decimal-of_its_number ds parts.0 (omega (arith, parts.1, parts.2)))
