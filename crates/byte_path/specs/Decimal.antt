-- Numbers that are read from text.
use Rattle.std.specs.Prelude.{◌≡◌, ◌<◌, ◌^◌, true, ℕ, Bool, ◌&&◌, ◌||◌, ◌==◌, not, nat_lt, nat_le, List}
use Rattle.std.specs.Prelude.{length, slice_index, Option, Some, None, if◌then◌else◌}
use Rattle.std.specs.List.{list_all}
use Rattle.std.specs.Char.{is_ascii_digit}
use Rattle.std.specs.Fmt.{decimal}
use Rattle.std.specs.Str.Parse.{digits_value}
use Rattle.byte_path.specs.Characters.{digit_0}

-- one or more digits without a leading zero; `0` alone is a decimal
abbrev pub is_decimal : List ℕ → Bool
is_decimal ds =
    nat_lt 0 (length ds) && list_all is_ascii_digit ds && (length ds == 1 || not (slice_index ds 0 == digit_0))

-- the number of a decimal, if it is at most `most`
abbrev pub decimal_within : List ℕ → ℕ → Option ℕ
decimal_within ds most = if is_decimal ds && nat_le (digits_value 10 ds) most then Some (digits_value 10 ds) else None

-- Each number of 64 bits has one decimal: the text that is written for it. It consists of digits.
pub record OneDecimal : Type 0 where
  pub right : (n : ℕ) → n < 2 ^ 64 → is_decimal (decimal n) ≡ true
  pub number : (n : ℕ) → n < 2 ^ 64 → digits_value 10 (decimal n) ≡ n
  pub only : (ds : List ℕ) → is_decimal ds ≡ true → digits_value 10 ds < 2 ^ 64
      → decimal (digits_value 10 ds) ≡ ds
  pub digits : (ds : List ℕ) → is_decimal ds ≡ true → list_all is_ascii_digit ds ≡ true
