-- Rows as lines.
use Rattle.std.specs.Prelude.{ℕ, List, [], ◌∷◌, ◌++◌, codes, if◌then◌else◌}
use Rattle.std.specs.List.{flat_map}
use Rattle.std.specs.Fmt.{decimal}
use Rattle.byte_path.specs.Characters.{space}
use Rattle.byte_path.specs.Quote.{quoted}
use Rattle.reports.specs.Fields.{Shown, word, absent, flag, name, Field, Number}

-- what a field says on a line; a name is quoted as a path is
abbrev pub word_of : Shown → List ℕ
word_of (word w) = w
word_of absent = codes "-"
word_of (flag w is_set) = if is_set then w else codes "-"
word_of (name n) = quoted n

abbrev pub spaced_word : Field → List ℕ
spaced_word f = word_of f.shows ++ space ∷ []

-- the words of fields, with a space after each
abbrev pub front_of : List Field → List ℕ
front_of fields = flat_map spaced_word fields

abbrev pub spaced_number : Number → List ℕ
spaced_number n = space ∷ decimal n.number

-- numbers, with a space before each
abbrev pub numbers_of : List Number → List ℕ
numbers_of numbers = flat_map spaced_number numbers

abbrev pub refusal_front : List ℕ
refusal_front = codes "refused "
