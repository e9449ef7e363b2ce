-- The keyword `$Id$` of gitattributes(5), "ident", and a content with its keywords expanded.
use Rattle.std.specs.Prelude.{◌≡◌, ◌⊎◌, ℕ, zero, suc, ◌+◌, ◌-◌, ◌<◌, ◌≤◌, Bool, true, false, ◌&&◌, ◌||◌, ◌==◌}
use Rattle.std.specs.Prelude.{nat_eq, not, List, [], ◌∷◌, ◌++◌, length, take, drop, codes, position, is_some}
use Rattle.std.specs.Prelude.{Option, Some, None, if◌then◌else◌}
use Rattle.std.specs.List.{list_any, starts_with}
use Rattle.hex.specs.Hex.{encode_lower}
use Rattle.byte_path.specs.Characters.{line_feed, space, dollar}

-- `$Id: `, the object name in lower case hex, ` $`
abbrev pub keyword_text : List ℕ → List ℕ
keyword_text name = codes "$Id: " ++ encode_lower name ++ codes " $"

abbrev pub is_dollar : ℕ → Bool
is_dollar b = b == dollar

-- the bytes without the first and the last
abbrev pub inner : List ℕ → List ℕ
inner bytes = take (length bytes - 2) (drop 1 bytes)

-- what may be between `$Id:` and the next `$`: no LF, and a space only as the first or the last byte
abbrev pub is_middle : List ℕ → Bool
is_middle middle = not (list_any (λ b. b == line_feed) middle) && not (list_any (λ b. b == space) (inner middle))

-- how many bytes `$Id:`, a middle and a `$` take, if the next `$` is at this place after `$Id:`
abbrev pub expanded_len : Option ℕ → List ℕ → Option ℕ
expanded_len None behind = None
expanded_len (Some n) behind = if is_middle (take n behind) then Some (n + 5) else None

-- how many bytes the keyword at the start of a text takes
unfoldable pub keyword_len : List ℕ → Option ℕ
keyword_len text =
    if starts_with nat_eq text (codes "$Id$") then Some 4
    else if starts_with nat_eq text (codes "$Id:") then expanded_len (position is_dollar (drop 4 text)) (drop 4 text)
    else None

-- a byte that is kept, or a keyword in place of n bytes, and then what follows
abbrev pub replaced : Option ℕ → List ℕ → ℕ → (ℕ → List ℕ) → List ℕ
replaced None keyword b behind = b ∷ behind 0
replaced (Some n) keyword b behind = keyword ++ behind (n - 1)

-- a text with its keywords expanded, after `skip` bytes of a keyword
abbrev pub expanded_behind : List ℕ → ℕ → List ℕ → List ℕ
expanded_behind keyword skip [] = []
expanded_behind keyword (suc skip) (b ∷ text) = expanded_behind keyword skip text
expanded_behind keyword zero (b ∷ text) =
    replaced (keyword_len (b ∷ text)) keyword b (λ skip. expanded_behind keyword skip text)

-- an empty text is empty; a keyword at the front becomes this one; any other byte is kept
abbrev pub expanded : List ℕ → List ℕ → List ℕ
expanded keyword text = expanded_behind keyword 0 text

-- whether a text has a keyword
abbrev pub has_keyword : List ℕ → Bool
has_keyword [] = false
has_keyword (b ∷ text) = is_some (keyword_len (b ∷ text)) || has_keyword text

-- the first keyword of a text begins at `start` and takes `len` bytes
pub record IsFirstKeyword (text : List ℕ) (start len : ℕ) : Type 0 where
  pub has : has_keyword text ≡ true
  pub some : 0 < len
  pub within : start + len ≤ length text
  pub same : (keyword : List ℕ) → expanded keyword text ≡ take start text ++ (keyword
      ++ expanded keyword (drop (start + len) text))

-- a text begins with a keyword, and this follows it: `$Id$`, or `$Id:`, a middle without `$` and `$`
abbrev pub BeginsWithKeyword : List ℕ → List ℕ → Type 0
BeginsWithKeyword text behind = (text ≡ codes "$Id$" ++ behind)
    ⊎ ((middle : List ℕ) × (text ≡ codes "$Id:" ++ (middle ++ dollar ∷ behind))
    × (list_any is_dollar middle ≡ false) × (is_middle middle ≡ true))
