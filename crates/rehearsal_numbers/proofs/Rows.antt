-- What the attribute file of a rehearsal says of each path.
use Rattle.std.proofs.Common.{◌≡◌, ℕ, ◌+◌, Bool, true, false, List, [], ◌∷◌, ◌++◌, refl, ap, ◌∙◌, arith, ne_eqb}
use Rattle.std.specs.Prelude.{codes, ◌==◌, if◌then◌else◌, nat_eq, ◌&&◌, ◌||◌}
use Rattle.bstr.specs.Text.{lines_from, line_len}
use Rattle.attr_line.specs.declared.state.AttrState.TheVariants.{Set, Value}
use Rattle.attr_line.specs.declared.file.Pair.{Pair}
use Rattle.attr_line.specs.declared.file.AttrFile.{AttrFile}
use Rattle.attr_line.specs.declared.file.AttrRow.{AttrRow}
use Rattle.attr_line.specs.declared.file.AttrRow.TheVariants.{Rule}
use Rattle.attr_line.specs.Line.{head_at, macro_outcome, rule_outcome, head_outcome, text_outcome, line_outcome}
use Rattle.attr_line.specs.File.{attributes_at}
use Rattle.wild_match.specs.Pieces.{Piece, Run, One, plain_front, front}
use Rattle.wild_match.specs.Fits.{is_match, last_part, fits}
use Rattle.attr_stack.specs.Pairs.{file_pairs, pairs_before}
use Rattle.attr_stack.specs.declared.files.FileAt.{FileAt}
use Rattle.rehearsal.specs.Paths.{name}
use Rattle.rehearsal.specs.Repository.{attributes}

abbrev pub value : List ℕ → List ℕ → Pair
value name said = record { name = name; state = Value said }

abbrev pub is_set : List ℕ → Pair
is_set name = record { name = name; state = Set }

abbrev rule : List ℕ → List Pair → AttrRow
rule pattern pairs = Rule pattern pairs

-- its rows
abbrev pub rows : List AttrRow
rows =
    rule (codes "*.k1") (is_set (codes "text") ∷ value (codes "eol") (codes "crlf") ∷ [])
    ∷ rule (codes "*.k2") (is_set (codes "ident") ∷ [])
    ∷ rule (codes "*.k3") (value (codes "working-tree-encoding") (codes "UTF-16LE") ∷ [])
    ∷ rule (codes "*.k4") (value (codes "filter") (codes "alpha") ∷ [])
    ∷ rule (codes "*.k5") (value (codes "filter") (codes "alpha") ∷ [])
    ∷ rule (codes "*.k6") (value (codes "filter") (codes "beta") ∷ [])
    ∷ rule (codes "*.k7") (value (codes "filter") (codes "beta") ∷ [])
    ∷ []

abbrev pub file : AttrFile
file = record { rows = rows; skipped = record { long = 0; negative = 0; name = 0; place = 0 } }

pub rows_are : attributes_at attributes true ≡ file
unfolding attributes_at lines_from line_len line_outcome text_outcome head_outcome rule_outcome macro_outcome head_at attributes
rows_are = refl

-- no digit is `/` or `.`
pub not_slash : (x : ℕ) → (48 + x == 47) ≡ false
not_slash x = rw (ne_eqb (48 + x) 47 (λ e. omega (arith, e))) refl

pub not_dot : (x : ℕ) → (46 == 48 + x) ≡ false
not_dot x = rw (ne_eqb 46 (48 + x) (λ e. omega (arith, e))) refl

-- the one attribute file
abbrev pub top : List FileAt
top = record { folder = []; file = file } ∷ []

-- the name of a path, by its digits
abbrev pub file_part : (b c d e f g k : ℕ) → List ℕ
file_part b c d e f g k =
    102 ∷ (48 + b) ∷ (48 + c) ∷ (48 + d) ∷ (48 + e) ∷ (48 + f) ∷ (48 + g) ∷ 46 ∷ 107 ∷ (48 + k) ∷ []

abbrev pub spelled : (a b c d e f g k : ℕ) → List ℕ
spelled a b c d e f g k = 100 ∷ (48 + a) ∷ 47 ∷ file_part b c d e f g k

pub last_is : (a b c d e f g k : ℕ) → last_part (spelled a b c d e f g k) ≡ file_part b c d e f g k
last_is a b c d e f g k = simp (not_slash)

-- the pieces of a row's pattern, by its last byte
abbrev pub ending : ℕ → List Piece
ending j = Run ∷ One (nat_eq 46) ∷ One (nat_eq 107) ∷ One (nat_eq j) ∷ []

matched : (t : Bool) → ((t && true) || false) ≡ t
matched true = refl
matched false = refl

fits_name : (j b c d e f g k : ℕ) → fits (ending j) (file_part b c d e f g k) ≡ (j == 48 + k)
fits_name j b c d e f g k = simp (not_slash, not_dot) (matched (j == 48 + k))

form_1 : (path : List ℕ) → is_match (codes "*.k1") path ≡ fits (ending 49) (last_part path)
unfolding is_match plain_front front
form_1 path = refl

form_2 : (path : List ℕ) → is_match (codes "*.k2") path ≡ fits (ending 50) (last_part path)
unfolding is_match plain_front front
form_2 path = refl

form_3 : (path : List ℕ) → is_match (codes "*.k3") path ≡ fits (ending 51) (last_part path)
unfolding is_match plain_front front
form_3 path = refl

form_4 : (path : List ℕ) → is_match (codes "*.k4") path ≡ fits (ending 52) (last_part path)
unfolding is_match plain_front front
form_4 path = refl

form_5 : (path : List ℕ) → is_match (codes "*.k5") path ≡ fits (ending 53) (last_part path)
unfolding is_match plain_front front
form_5 path = refl

form_6 : (path : List ℕ) → is_match (codes "*.k6") path ≡ fits (ending 54) (last_part path)
unfolding is_match plain_front front
form_6 path = refl

form_7 : (path : List ℕ) → is_match (codes "*.k7") path ≡ fits (ending 55) (last_part path)
unfolding is_match plain_front front
form_7 path = refl

module _ (a b c d e f g k : ℕ) where
  -- a form that looks at the last part decides by the last byte
  by_last : (pattern : List ℕ) (j : ℕ) → ((path : List ℕ) → is_match pattern path ≡ fits (ending j) (last_part path))
      → is_match pattern (spelled a b c d e f g k) ≡ (j == 48 + k)
  by_last pattern j form =
      form (spelled a b c d e f g k) ∙ ap (fits (ending j)) (last_is a b c d e f g k) ∙ fits_name j b c d e f g k

  -- what the rows say of it, from last to first
  abbrev pub says : List Pair
  says =
      (if 55 == 48 + k then value (codes "filter") (codes "beta") ∷ [] else [])
      ++ ((if 54 == 48 + k then value (codes "filter") (codes "beta") ∷ [] else [])
      ++ ((if 53 == 48 + k then value (codes "filter") (codes "alpha") ∷ [] else [])
      ++ ((if 52 == 48 + k then value (codes "filter") (codes "alpha") ∷ [] else [])
      ++ ((if 51 == 48 + k then value (codes "working-tree-encoding") (codes "UTF-16LE") ∷ [] else [])
      ++ ((if 50 == 48 + k then is_set (codes "ident") ∷ [] else [])
      ++ ((if 49 == 48 + k then value (codes "eol") (codes "crlf") ∷ is_set (codes "text") ∷ [] else [])
      ++ []))))))

  file_says : file_pairs (spelled a b c d e f g k) file ≡ says
  file_says =
      rw (
        by_last (codes "*.k1") 49 form_1,
        by_last (codes "*.k2") 50 form_2,
        by_last (codes "*.k3") 51 form_3,
        by_last (codes "*.k4") 52 form_4,
        by_last (codes "*.k5") 53 form_5,
        by_last (codes "*.k6") 54 form_6,
        by_last (codes "*.k7") 55 form_7,
      ) refl

  -- no folder but the top one has a file
  pub folders_say : pairs_before top (spelled a b c d e f g k) 13 ≡ says
  folders_say = simp (not_slash) file_says
