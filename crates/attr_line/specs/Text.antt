-- The bytes of an attribute file, and how they are cut into lines and words.
use Rattle.std.specs.Prelude.{ℕ, Bool, ◌||◌, ◌==◌, nat_lt, not, List, length, drop, filter}
use Rattle.std.specs.List.{slice_split, position_or_len}
use Rattle.byte_path.specs.Characters.{tab, carriage_return, space}

-- what stands between two words: a space, TAB or CR
abbrev pub is_gap : ℕ → Bool
is_gap b = b == space || b == tab || b == carriage_return

abbrev pub ends_gaps : ℕ → Bool
ends_gaps b = not (is_gap b)

-- what follows the blanks and CR at the front
abbrev pub behind_gaps : List ℕ → List ℕ
behind_gaps text = drop (position_or_len ends_gaps text) text

-- the words of a text: what stands between its blanks and CR, without the empty parts
abbrev pub words : List ℕ → List (List ℕ)
words text = filter (λ word. nat_lt 0 (length word)) (slice_split is_gap text)
