-- The value of a key.
use Rattle.std.specs.Prelude.{ℕ, ◌+◌, Bool, true, false, ◌==◌, not, List, [], ◌∷◌, ◌++◌, length, take, Result}
use Rattle.std.specs.Prelude.{Ok, Err, if◌then◌else◌}
use Rattle.git_config.specs.declared.fault.ConfigFault.{ConfigFault}
use Rattle.git_config.specs.declared.fault.ConfigFault.TheVariants.{Line}
use Rattle.git_config.specs.declared.fault.LineKind.TheVariants.{Value as BadValue}
use Rattle.git_config.specs.declared.value.Mark.{Mark}
use Rattle.git_config.specs.declared.value.Mark.TheVariants.{End, Comment, Wrong, More}
use Rattle.git_config.specs.declared.value.Piece.{Piece}
use Rattle.git_config.specs.declared.value.Piece.TheVariants.{Backslash, Quote, Blank, Byte, Continued}
use Rattle.git_config.specs.Text.{is_blank, is_comment_mark, line_end}
use Rattle.byte_path.specs.Characters.{backspace, tab, line_feed, quote, backslash, letter_b, letter_n, letter_t}

-- what follows a backslash: the end of the line, or `"`, `\`, n, t or b
abbrev pub escape_of : ℕ → Mark
escape_of b =
    if b == line_feed then More Continued
    else if b == quote then More (Byte quote)
    else if b == backslash then More (Byte backslash)
    else if b == letter_n then More (Byte line_feed)
    else if b == letter_t then More (Byte tab)
    else if b == letter_b then More (Byte backspace)
    else Wrong

-- what a byte outside an escape is, in quotes or outside them
abbrev pub plain_of : Bool → ℕ → Mark
plain_of quoted b =
    if b == line_feed then End
    else if b == backslash then More Backslash
    else if b == quote then More Quote
    else if quoted then More (Byte b)
    else if is_comment_mark b then Comment
    else if is_blank b then More (Blank b)
    else More (Byte b)

-- what a byte of a value is
abbrev pub mark_of : Bool → Bool → ℕ → Mark
mark_of quoted true b = escape_of b
mark_of quoted false b = plain_of quoted b

-- a value as far as it is read: in quotes or not, right after a backslash or not, its bytes,
-- how many of them stay if nothing follows, and how many lines it was continued on
pub record Reading : Type 0 where
  pub quoted : Bool
  pub escaped : Bool
  pub bytes : List ℕ
  pub kept : ℕ
  pub lines : ℕ

-- a blank is dropped while the value has no byte
abbrev pub with_blank : List ℕ → ℕ → List ℕ
with_blank [] b = []
with_blank (v ∷ vs) b = (v ∷ vs) ++ b ∷ []

abbrev pub after_piece : Piece → Reading → Reading
after_piece Backslash r = record r { escaped = true; kept = length r.bytes }
after_piece Quote r = record r { quoted = not r.quoted; kept = length r.bytes }
after_piece (Blank b) r = record r { bytes = with_blank r.bytes b }
after_piece (Byte b) r = record r { escaped = false; bytes = r.bytes ++ b ∷ []; kept = length r.bytes + 1 }
after_piece Continued r = record r { escaped = false; lines = r.lines + 1 }

-- the end of a value, which has to be outside quotes: its bytes, how many lines it was continued on, and what is left
-- of the text
abbrev pub ended : ℕ → Bool → List ℕ → ℕ → List ℕ → Result (List ℕ × ℕ × List ℕ) ConfigFault
ended line true bytes lines text = Err (Line line BadValue)
ended line false bytes lines text = Ok (bytes, lines, text)

abbrev pub ended_at : ℕ → Reading → List ℕ → Result (List ℕ × ℕ × List ℕ) ConfigFault
ended_at line r text = ended line r.quoted (take r.kept r.bytes) r.lines text

-- what a byte at the front of a text does, and what follows it
abbrev pub marked : ℕ → Mark → Reading → ℕ → List ℕ → (Reading → Result (List ℕ × ℕ × List ℕ) ConfigFault)
    → Result (List ℕ × ℕ × List ℕ) ConfigFault
marked line End r b text behind = ended_at line r (b ∷ text)
marked line Comment r b text behind = ended_at line r (line_end text)
marked line Wrong r b text behind = Err (Line line BadValue)
marked line (More piece) r b text behind = behind (after_piece piece r)

-- A value from here on, after what is read. The end of the file ends it as the end of a line does.
unfoldable pub value_from : ℕ → Reading → List ℕ → Result (List ℕ × ℕ × List ℕ) ConfigFault
value_from line r [] = ended_at line r []
value_from line r (b ∷ text) = marked line (mark_of r.quoted r.escaped b) r b text (λ later. value_from line later text)

-- a value after its `=`
abbrev pub value_at : ℕ → List ℕ → Result (List ℕ × ℕ × List ℕ) ConfigFault
value_at line text = value_from line (record { quoted = false; escaped = false; bytes = []; kept = 0; lines = 0 }) text
