-- A content whose keywords are `$Id$` again (gitattributes(5), "ident").
use Rattle.std.specs.Prelude.{ℕ, zero, suc, ◌+◌, ◌<◌, ◌≤◌, ◌≡◌, Bool, true, false, ◌||◌, ◌==◌, nat_eq}
use Rattle.std.specs.Prelude.{List, [], ◌∷◌, ◌++◌, length, take, drop}
use Rattle.std.specs.Prelude.{codes, position, is_some, Option, Some, None, if◌then◌else◌}
use Rattle.std.specs.List.{list_any, starts_with}
use Rattle.byte_path.specs.Characters.{line_feed}
use Rattle.ident_convert.specs.Ident.{is_dollar, replaced}

abbrev pub is_lf : ℕ → Bool
is_lf b = b == line_feed

-- how many bytes `$Id:` and all up to the next `$` take, if that is at this place after `$Id:` and no LF is between
abbrev pub closed_len : Option ℕ → List ℕ → Option ℕ
closed_len None behind = None
closed_len (Some n) behind = if list_any is_lf (take n behind) then None else Some (n + 5)

-- how many bytes the expanded keyword at the start of a text takes
unfoldable pub old_len : List ℕ → Option ℕ
old_len text =
    if starts_with nat_eq text (codes "$Id:") then closed_len (position is_dollar (drop 4 text)) (drop 4 text)
    else None

-- after `skip` bytes of an expanded keyword
abbrev pub back_behind : ℕ → List ℕ → List ℕ
back_behind skip [] = []
back_behind (suc skip) (b ∷ text) = back_behind skip text
back_behind zero (b ∷ text) = replaced (old_len (b ∷ text)) (codes "$Id$") b (λ skip. back_behind skip text)

-- an expanded keyword at the front becomes `$Id$`, and any other byte is kept
abbrev pub back_ident : List ℕ → List ℕ
back_ident text = back_behind 0 text

-- whether a text has an expanded keyword
abbrev pub has_expanded : List ℕ → Bool
has_expanded [] = false
has_expanded (b ∷ text) = is_some (old_len (b ∷ text)) || has_expanded text

-- the first expanded keyword of a text begins at `start` and takes `len` bytes
pub record IsFirstExpanded (text : List ℕ) (start len : ℕ) : Type 0 where
  pub has : has_expanded text ≡ true
  pub some : 0 < len
  pub within : start + len ≤ length text
  pub same : back_ident text ≡ take start text ++ (codes "$Id$" ++ back_ident (drop (start + len) text))
