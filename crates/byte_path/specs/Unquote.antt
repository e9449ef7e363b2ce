-- What a quoted text stands for.
use Rattle.std.specs.Prelude.{◌≡◌, ℕ, zero, suc, ◌+◌, ◌-◌, ◌*◌, ◌<◌, ◌≤◌, Bool, true, false, ◌&&◌, ◌==◌}
use Rattle.std.specs.Prelude.{nat_le, List, [], ◌∷◌, ◌++◌, length, drop, slice_index, Option, Some, None}
use Rattle.std.specs.Prelude.{Result, Ok, Err, if◌then◌else◌}
use Rattle.byte_path.specs.declared.unquoted.QuoteFault.{QuoteFault}
use Rattle.byte_path.specs.declared.unquoted.Stretch.{Stretch}
use Rattle.byte_path.specs.declared.unquoted.Stretch.TheVariants.{Closed, Escaped}
use Rattle.byte_path.specs.declared.unquoted.QuoteFault.TheVariants.{Unclosed, BadEscape, NoMemory}
use Rattle.byte_path.specs.Characters.{bell, backspace, tab, line_feed, vertical_tab, form_feed}
use Rattle.byte_path.specs.Characters.{carriage_return, quote, digit_0, digit_3, digit_7, backslash, letter_a}
use Rattle.byte_path.specs.Characters.{letter_b, letter_f, letter_n, letter_r, letter_t, letter_v}

-- the byte for the letter a, b, t, n, v, f or r, for `"` or for `\` after a backslash
abbrev pub byte_of_letter : ℕ → Option ℕ
byte_of_letter c =
    if c == letter_a then Some bell
    else if c == letter_b then Some backspace
    else if c == letter_t then Some tab
    else if c == letter_n then Some line_feed
    else if c == letter_v then Some vertical_tab
    else if c == letter_f then Some form_feed
    else if c == letter_r then Some carriage_return
    else if c == quote then Some quote
    else if c == backslash then Some backslash
    else None

-- a digit from `0` to `most`
abbrev pub is_digit_to : ℕ → ℕ → Bool
is_digit_to most c = nat_le digit_0 c && nat_le c most

-- whether a text begins with three octal digits, 000 to 377
abbrev pub has_octal : List ℕ → Bool
has_octal text =
    nat_le 3 (length text) && is_digit_to digit_3 (slice_index text 0)
    && is_digit_to digit_7 (slice_index text 1) && is_digit_to digit_7 (slice_index text 2)

-- their number
abbrev pub octal_value : List ℕ → ℕ
octal_value text =
    (slice_index text 0 - digit_0) * 64 + (slice_index text 1 - digit_0) * 8 + (slice_index text 2 - digit_0)

-- a letter's byte, or else that of three octal digits, each with how many bytes it takes
abbrev pub letter_or_octal : Option ℕ → List ℕ → Option (ℕ × ℕ)
letter_or_octal (Some byte) text = Some (byte, 1)
letter_or_octal None text = if has_octal text then Some (octal_value text, 3) else None

-- the escape after a backslash
abbrev pub escape_at : List ℕ → Option (ℕ × ℕ)
escape_at text = letter_or_octal (byte_of_letter (slice_index text 0)) text

-- an answer after these bytes, which took n bytes of the text
abbrev pub prefixed : List ℕ → ℕ → Result (List ℕ × ℕ) QuoteFault → Result (List ℕ × ℕ) QuoteFault
prefixed bytes n (Ok answer) = Ok (bytes ++ answer.0, n + answer.1)
prefixed bytes n (Err fault) = Err fault

-- an escape's byte, and what follows the escape
abbrev pub escaped : Option (ℕ × ℕ) → (ℕ → Result (List ℕ × ℕ) QuoteFault) → Result (List ℕ × ℕ) QuoteFault
escaped None behind = Err BadEscape
escaped (Some escape) behind = prefixed (escape.0 ∷ []) 1 (behind escape.1)

-- a byte that is a quote, a backslash or neither, and what follows it; the cases are equations, so that only one is
-- computed
abbrev pub from_byte : Bool → Bool → ℕ → List ℕ → (ℕ → Result (List ℕ × ℕ) QuoteFault) → Result (List ℕ × ℕ) QuoteFault
from_byte true is_backslash b text behind = Ok ([], 1)
from_byte false true b text behind = escaped (escape_at text) behind
from_byte false false b text behind = prefixed (b ∷ []) 1 (behind 0)

-- the bytes up to the closing quote, after `skip` bytes of an escape, and how many bytes of the text these take
abbrev pub unquoted_behind : ℕ → List ℕ → Result (List ℕ × ℕ) QuoteFault
unquoted_behind skip [] = Err Unclosed
unquoted_behind (suc skip) (b ∷ text) = prefixed [] 1 (unquoted_behind skip text)
unquoted_behind zero (b ∷ text) = from_byte (b == quote) (b == backslash) b text (λ skip. unquoted_behind skip text)

-- the same for a text that begins with a quote
abbrev pub unquoted : List ℕ → Result (List ℕ × ℕ) QuoteFault
unquoted text = prefixed [] 1 (unquoted_behind 0 (drop 1 text))

-- this answer, or out of memory
abbrev pub IsUnquoted : List ℕ → Result (List ℕ × ℕ) QuoteFault → Type 0
IsUnquoted text (Ok answer) = unquoted text ≡ Ok answer
IsUnquoted text (Err Unclosed) = unquoted text ≡ Err Unclosed
IsUnquoted text (Err BadEscape) = unquoted text ≡ Err BadEscape
IsUnquoted text (Err NoMemory) = Unit {0}

-- what one stretch of a text appends to the bytes so far: it ends the text, or an escape ends it and the text goes on
abbrev pub IsStretch : List ℕ → List ℕ → List ℕ → Result Stretch QuoteFault → Type 0
IsStretch old text new (Ok (Closed n)) = (n ≤ length text) × (prefixed old 0 (unquoted_behind 0 text) ≡ Ok (new, n))
IsStretch old text new (Ok (Escaped n)) =
    (0 < n) × (n ≤ length text) × (prefixed old 0 (unquoted_behind 0 text)
    ≡ prefixed new n (unquoted_behind 0 (drop n text)))
IsStretch old text new (Err Unclosed) = unquoted_behind 0 text ≡ Err Unclosed
IsStretch old text new (Err BadEscape) = unquoted_behind 0 text ≡ Err BadEscape
IsStretch old text new (Err NoMemory) = Unit {0}
