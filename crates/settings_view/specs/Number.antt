-- Numbers.
use Rattle.std.specs.Prelude.{ℕ, ◌-◌, ◌*◌, ◌^◌, Bool, true, false, ◌&&◌, ◌||◌, ◌==◌, nat_lt, nat_le, min}
use Rattle.std.specs.Prelude.{List, [], ◌∷◌, length, take, drop, Option, Some, None, option_map}
use Rattle.std.specs.Prelude.{if◌then◌else◌}
use Rattle.std.specs.List.{prefix_len}
use Rattle.std.specs.Char.{is_ascii_digit, to_ascii_lowercase}
use Rattle.std.specs.Str.Parse.{digits_value}
use Rattle.settings_view.specs.declared.number.Number.{Number}
use Rattle.byte_path.specs.Characters.{hyphen, letter_g, letter_k, letter_m}

-- k, m and g, in either case: 1,024, its square and its cube
abbrev pub unit_at : ℕ → Option ℕ
unit_at b =
    if b == letter_k then Some 1024
    else if b == letter_m then Some (1024 ^ 2)
    else if b == letter_g then Some (1024 ^ 3) else None

-- the factor that the text after the digits stands for
abbrev pub factor_of : List ℕ → Option ℕ
factor_of [] = Some 1
factor_of (b ∷ []) = unit_at (to_ascii_lowercase b)
factor_of (b ∷ c ∷ rest) = None

-- 1 to 18 digits
abbrev pub is_short : List ℕ → Bool
is_short digits = nat_lt 0 (length digits) && nat_le (length digits) 18

-- digits, and a unit or nothing after them
abbrev pub size_from : List ℕ → List ℕ → Option ℕ
size_from digits rest =
    if is_short digits then option_map (λ factor. digits_value 10 digits * factor) (factor_of rest) else None

-- the size that a text gives: the digits at its front, and what follows them
abbrev pub size_of : List ℕ → Option ℕ
size_of text = size_from (take (prefix_len is_ascii_digit text) text) (drop (prefix_len is_ascii_digit text) text)

abbrev pub signed : Bool → Option ℕ → Option Number
signed negative size = option_map (λ n. record { negative = negative; size = n }) size

-- a size, with or without `-` before it
abbrev pub number_text : List ℕ → Option Number
number_text [] = None
number_text (b ∷ text) = if b == hyphen then signed true (size_of text) else signed false (size_of (b ∷ text))

-- a number; a key without `=` has none
abbrev pub number_of : Option (List ℕ) → Option Number
number_of None = None
number_of (Some text) = number_text text

-- below 1 there are 8 workers, and above 16 there are 16
abbrev pub workers_of : Number → ℕ
workers_of n = if n.negative || n.size == 0 then 8 else min n.size 16

-- below 0 the threshold is 0, and above 2^64 - 1 it is 2^64 - 1
abbrev pub threshold_of : Number → ℕ
threshold_of n = if n.negative then 0 else min n.size (2 ^ 64 - 1)
