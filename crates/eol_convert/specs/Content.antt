-- A content with the line ends of the worktree (gitattributes(5), "text" and "eol").
use Rattle.std.specs.Prelude.{ℕ, ◌-◌, ◌/◌, Bool, false, ◌&&◌, ◌||◌, ◌==◌, nat_le, not, nat_eq, List, [], ◌∷◌}
use Rattle.std.specs.Prelude.{◌++◌, count_by, if◌then◌else◌}
use Rattle.std.specs.List.{list_any, ends_with}
use Rattle.eol_convert.specs.declared.setting.LineEnds.{LineEnds}
use Rattle.eol_convert.specs.declared.setting.LineEnds.TheVariants.{Keep, ToCrlf, AutoCrlf}
use Rattle.byte_path.specs.Characters.{nul, backspace, tab, line_feed, form_feed, carriage_return, substitute}
use Rattle.byte_path.specs.Characters.{escape, space, delete}

-- what a byte becomes, after a CR or not: CR LF for an LF without a CR before it, and any other byte itself
abbrev pub crlf_for : Bool → ℕ → List ℕ
crlf_for behind_cr b = if b == line_feed && not behind_cr then carriage_return ∷ line_feed ∷ [] else b ∷ []

-- the same byte by byte
abbrev pub with_crlf_from : Bool → List ℕ → List ℕ
with_crlf_from behind_cr [] = []
with_crlf_from behind_cr (b ∷ content) = crlf_for behind_cr b ++ with_crlf_from (b == carriage_return) content

-- each LF without a CR before it becomes CR LF
abbrev pub with_crlf : List ℕ → List ℕ
with_crlf content = with_crlf_from false content

-- what the LF after a line becomes
abbrev pub line_end : List ℕ → List ℕ
line_end line = crlf_for (ends_with nat_eq line (carriage_return ∷ [])) line_feed

-- BS, TAB, FF, ESC, and each byte from the space on except DEL
abbrev pub is_printing : ℕ → Bool
is_printing b = b == backspace || b == tab || b == form_feed || b == escape || (nat_le space b && not (b == delete))

-- any other byte except LF
abbrev pub is_non_printing : ℕ → Bool
is_non_printing b = not (is_printing b || b == line_feed)

-- a text that is to be changed has neither CR nor NUL
abbrev pub forbids_change : ℕ → Bool
forbids_change b = b == carriage_return || b == nul

-- how many bytes aren't printing: a last 1A, which ended a text under DOS, isn't counted
abbrev pub non_printing : List ℕ → ℕ
non_printing content = count_by is_non_printing content - (if ends_with nat_eq content (substitute ∷ []) then 1 else 0)

-- Whether a content is a text whose lines end in LF alone: it has neither CR nor NUL, and at most one byte that isn't
-- printing for each 128 that are.
unfoldable pub is_lf_text : List ℕ → Bool
is_lf_text content =
    not (list_any forbids_change content)
    && nat_le (non_printing content) (count_by is_printing content / 128)

-- a content in the worktree
abbrev pub to_tree_ends : List ℕ → LineEnds → List ℕ
to_tree_ends content Keep = content
to_tree_ends content ToCrlf = with_crlf content
to_tree_ends content AutoCrlf = if is_lf_text content then with_crlf content else content
