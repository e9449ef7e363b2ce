-- How a path is shown on a line.
use Rattle.std.specs.Prelude.{ℕ, ◌+◌, ◌/◌, ◌%◌, Bool, ◌||◌, ◌==◌, nat_lt, List, [], ◌∷◌, ◌++◌, Option, Some}
use Rattle.std.specs.Prelude.{None, if◌then◌else◌}
use Rattle.std.specs.List.{flat_map, list_any}
use Rattle.byte_path.specs.Characters.{bell, backspace, tab, line_feed, vertical_tab, form_feed}
use Rattle.byte_path.specs.Characters.{carriage_return, space, quote, digit_0, backslash, letter_a, letter_b}
use Rattle.byte_path.specs.Characters.{letter_f, letter_n, letter_r, letter_t, letter_v, tilde}

-- a byte below 20 or above 7E in hex, a `"` or a `\`
abbrev pub needs_escape : ℕ → Bool
needs_escape b = nat_lt b space || nat_lt tilde b || b == quote || b == backslash

-- what follows the backslash in \a \b \t \n \v \f \r \" \\
abbrev pub letter_of : ℕ → Option ℕ
letter_of b =
    if b == bell then Some letter_a
    else if b == backspace then Some letter_b
    else if b == tab then Some letter_t
    else if b == line_feed then Some letter_n
    else if b == vertical_tab then Some letter_v
    else if b == form_feed then Some letter_f
    else if b == carriage_return then Some letter_r
    else if b == quote then Some quote
    else if b == backslash then Some backslash
    else None

-- a backslash, and then a letter or the three octal digits of the byte
abbrev pub escape_with : Option ℕ → ℕ → List ℕ
escape_with (Some letter) b = backslash ∷ letter ∷ []
escape_with None b = backslash ∷ (digit_0 + b / 64) ∷ (digit_0 + b / 8 % 8) ∷ (digit_0 + b % 8) ∷ []

-- a byte as it stands between the quotes
abbrev pub spelled_byte : ℕ → List ℕ
spelled_byte b = if needs_escape b then escape_with (letter_of b) b else b ∷ []

-- a path as it is shown
abbrev pub quoted : List ℕ → List ℕ
quoted path = if list_any needs_escape path then quote ∷ flat_map spelled_byte path ++ quote ∷ [] else path
