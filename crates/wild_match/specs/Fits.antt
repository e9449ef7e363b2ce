-- The match of a pattern and a path: gitattributes(5), and gitignore(5) for the patterns.
use Rattle.std.specs.Prelude.{ℕ, ◌-◌, Bool, true, false, ◌&&◌, ◌||◌, not, ◌==◌, nat_lt, List, [], ◌∷◌, length}
use Rattle.std.specs.Prelude.{slice_index, if◌then◌else◌}
use Rattle.std.specs.List.{list_any}
use Rattle.wild_match.specs.Pieces.{Piece, Slash, One, Run, Folders, Rest, Never, pieces}
use Rattle.byte_path.specs.Characters.{slash}

abbrev pub is_slash : ℕ → Bool
is_slash b = b == slash

-- some split of the text into bytes other than `/` and a rest that fits
abbrev pub some_split : (List ℕ → Bool) → List ℕ → Bool
some_split fits [] = fits []
some_split fits (b ∷ text) = fits (b ∷ text) || (not (is_slash b) && some_split fits text)

-- some split of the text into bytes that end in `/` and a rest that fits
abbrev pub some_folder : (List ℕ → Bool) → List ℕ → Bool
some_folder fits [] = false
some_folder fits (b ∷ text) = (is_slash b && fits text) || some_folder fits text

-- whether the pieces match the text
abbrev pub fits : List Piece → List ℕ → Bool
fits [] [] = true
fits [] (b ∷ text) = false
fits (Slash ∷ later) [] = false
fits (Slash ∷ later) (b ∷ text) = is_slash b && fits later text
fits (One passes ∷ later) [] = false
fits (One passes ∷ later) (b ∷ text) = not (is_slash b) && passes b && fits later text
fits (Run ∷ later) text = some_split (fits later) text
fits (Folders ∷ later) text = fits later text || some_folder (fits later) text
fits (Rest ∷ later) text = nat_lt 0 (length text)
fits (Never ∷ later) text = false

-- without one `/` in front
abbrev pub without_slash : List ℕ → List ℕ
without_slash [] = []
without_slash (b ∷ text) = if is_slash b then text else b ∷ text

-- what follows the last `/`
abbrev pub last_part : List ℕ → List ℕ
last_part [] = []
last_part (b ∷ text) = if list_any is_slash (b ∷ text) then last_part text else b ∷ text

-- An empty pattern and one that ends in `/` match no path. One with a `/` is compared with the whole path, any other
-- with its last part.
unfoldable pub is_match : List ℕ → List ℕ → Bool
is_match pattern path =
    if length pattern == 0 then false
    else if is_slash (slice_index pattern (length pattern - 1)) then false
    else if list_any is_slash pattern then fits (pieces true (without_slash pattern)) path
    else fits (pieces false pattern) (last_part path)
