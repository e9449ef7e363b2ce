-- The header of a section.
use Rattle.std.specs.Prelude.{ℕ, ◌+◌, Bool, true, false, ◌==◌, not, nat_lt, List, [], ◌∷◌, ◌++◌, length, take}
use Rattle.std.specs.Prelude.{drop, map, Some, None, Result, Ok, Err, if◌then◌else◌}
use Rattle.std.specs.List.{position_or_len}
use Rattle.std.specs.Char.{to_ascii_lowercase}
use Rattle.byte_path.specs.Front.{begins}
use Rattle.git_config.specs.declared.fault.ConfigFault.{ConfigFault}
use Rattle.git_config.specs.declared.fault.ConfigFault.TheVariants.{Line}
use Rattle.git_config.specs.declared.fault.LineKind.TheVariants.{Section}
use Rattle.git_config.specs.declared.setting.Head.{Head}
use Rattle.git_config.specs.Text.{is_blank, ends_name, is_dot, behind_blanks, ◌>>=◌, want}
use Rattle.byte_path.specs.Characters.{line_feed, quote, backslash, close_bracket}
pub use Rattle.byte_path.specs.Characters.{is_quote}

-- `]`
abbrev pub is_close : ℕ → Bool
is_close b = b == close_bracket

abbrev pub lowered : List ℕ → List ℕ
lowered text = map to_ascii_lowercase text

-- the part before the first dot, and the part after it, if there is one
abbrev pub dotted_at : ℕ → List ℕ → Head
dotted_at dot name = record {
  section = lowered (take dot name);
  sub = if nat_lt dot (length name) then Some (lowered (drop (dot + 1) name)) else None;
}

unfoldable pub plain_head : List ℕ → Head
plain_head name = dotted_at (position_or_len is_dot name) name

-- A subsection up to its closing quote, after the part that is read, and the text after the quote.
-- The flag says that a backslash stands before the text.
unfoldable pub sub_at : ℕ → Bool → List ℕ → List ℕ → Result (List ℕ × List ℕ) ConfigFault
sub_at line escaped sub [] = Err (Line line Section)
sub_at line true sub (b ∷ text) =
    want (not (b == line_feed)) (Line line Section) (sub_at line false (sub ++ b ∷ []) text)
sub_at line false sub (b ∷ text) =
    want (not (b == line_feed)) (Line line Section)
    (if b == quote then Ok (sub, text)
    else if b == backslash then sub_at line true sub text
    else sub_at line false (sub ++ b ∷ []) text)

-- the header of a name and of a subsection that was read, and what follows its `]`
abbrev pub head_with : List ℕ → List ℕ × List ℕ → Head × List ℕ
head_with name x = (record { section = lowered name; sub = Some x.0 }, drop 1 x.1)

-- a name, blanks, the subsection in quotes, and `]`
unfoldable pub quoted_head_at : ℕ → List ℕ → List ℕ → Result (Head × List ℕ) ConfigFault
quoted_head_at line name text =
    want (begins is_quote text) (Line line Section) (do
      x ← sub_at line false [] (drop 1 text)
      want (begins is_close x.1) (Line line Section) (Ok (head_with name x)))

-- what follows the name: `]`, or a subsection
unfoldable pub named_at : ℕ → List ℕ → List ℕ → Result (Head × List ℕ) ConfigFault
named_at line name text =
    want (nat_lt 0 (length name)) (Line line Section)
    (if begins is_close text then Ok (plain_head name, drop 1 text)
    else want (begins is_blank text) (Line line Section) (quoted_head_at line name (behind_blanks text)))

-- a header after its `[`, and the text after its `]`
unfoldable pub header_at : ℕ → List ℕ → Result (Head × List ℕ) ConfigFault
header_at line text =
    named_at line (take (position_or_len ends_name text) text) (drop (position_or_len ends_name text) text)
