-- What a line of an attribute file says: nothing, a row, or why it is skipped.
use Rattle.std.specs.Prelude.{ℕ, Bool, true, false, ◌&&◌, ◌||◌, ◌==◌, nat_eq, nat_lt, nat_le, not, List}
use Rattle.std.specs.Prelude.{length, take, drop, codes, Option, Some, None, Result, Ok, Err, if◌then◌else◌}
use Rattle.std.specs.List.{starts_with, position_or_len}
use Rattle.byte_path.specs.declared.unquoted.QuoteFault.{QuoteFault}
use Rattle.byte_path.specs.Front.{begins}
use Rattle.byte_path.specs.Unquote.{unquoted}
use Rattle.attr_line.specs.declared.file.Pair.{Pair}
use Rattle.attr_line.specs.declared.file.AttrRow.{AttrRow}
use Rattle.attr_line.specs.declared.file.AttrRow.TheVariants.{Rule, Macro}
use Rattle.attr_line.specs.declared.outcome.Outcome.{Outcome}
use Rattle.attr_line.specs.declared.outcome.Outcome.TheVariants.{Nothing, Row, Skip}
use Rattle.attr_line.specs.declared.outcome.LineFault.TheVariants.{Long, Negative, Name, Place}
use Rattle.attr_line.specs.Text.{is_gap, behind_gaps}
use Rattle.attr_line.specs.Pairs.{is_bang, is_name, pairs_at}
use Rattle.byte_path.specs.Characters.{hash}
pub use Rattle.byte_path.specs.Characters.{is_quote}

-- `#`
abbrev pub is_hash : ℕ → Bool
is_hash b = b == hash

-- the pattern at the front of a line, whether it was read as a quoted text, and what follows it
pub record Head : Type 0 where
  pub pattern : List ℕ
  pub quoted : Bool
  pub rest : List ℕ

-- a pattern up to the first blank or CR
abbrev pub plain_head : List ℕ → Head
plain_head text = record {
  pattern = take (position_or_len is_gap text) text;
  quoted = false;
  rest = drop (position_or_len is_gap text) text;
}

-- a pattern up to the closing quote; a text that can't be read as quoted is plain
abbrev pub unquoted_head : Result (List ℕ × ℕ) QuoteFault → List ℕ → Head
unquoted_head (Ok answer) text = record { pattern = answer.0; quoted = true; rest = drop answer.1 text }
unquoted_head (Err fault) text = plain_head text

unfoldable pub head_at : List ℕ → Head
head_at text = if begins is_quote text then unquoted_head (unquoted text) text else plain_head text

-- a row with its pairs, or a bad name among them
abbrev pub row_or_name : (List Pair → AttrRow) → Option (List Pair) → Outcome
row_or_name row (Some pairs) = Row (row pairs)
row_or_name row None = Skip Name

-- `[attr]` and a name, in a plain pattern
abbrev pub is_macro : Head → Bool
is_macro head = not head.quoted && starts_with nat_eq head.pattern (codes "[attr]") && nat_lt 6 (length head.pattern)

-- a macro with that name is allowed only in a file that is `top`
unfoldable pub macro_outcome : Bool → List ℕ → List ℕ → Outcome
macro_outcome top name rest =
    if not top then Skip Place
    else if not (is_name name) then Skip Name
    else row_or_name (λ pairs. Macro name pairs) (pairs_at rest)

unfoldable pub rule_outcome : List ℕ → List ℕ → Outcome
rule_outcome pattern rest =
    if begins is_bang pattern then Skip Negative
    else row_or_name (λ pairs. Rule pattern pairs) (pairs_at rest)

unfoldable pub head_outcome : Bool → Head → Outcome
head_outcome top head =
    if is_macro head then macro_outcome top (drop 6 head.pattern) head.rest
    else rule_outcome head.pattern head.rest

-- a line after its leading blanks and CR
unfoldable pub text_outcome : Bool → List ℕ → Outcome
text_outcome top text =
    if length text == 0 || begins is_hash text then Nothing
    else head_outcome top (head_at text)

-- a line without its end
unfoldable pub line_outcome : Bool → List ℕ → Outcome
line_outcome top line =
    if nat_le 2048 (length line) then Skip Long
    else text_outcome top (behind_gaps line)
