-- The text of the command of a single run. These rules are this project's own.
use Rattle.std.specs.Prelude.{ℕ, Bool, true, false, ◌==◌, List, [], ◌∷◌, ◌++◌, if◌then◌else◌}
use Rattle.std.specs.List.{flat_map}
use Rattle.byte_path.specs.Characters.{backslash, letter_f}

-- `%`
abbrev pub percent : ℕ
percent = 37

-- `'`
abbrev pub apostrophe : ℕ
apostrophe = 39

-- a byte between single quotes: a `'` ends them, stands behind a backslash, and begins them again
abbrev pub quoted_byte : ℕ → List ℕ
quoted_byte b = if b == apostrophe then apostrophe ∷ backslash ∷ apostrophe ∷ apostrophe ∷ [] else b ∷ []

-- a path in single quotes
abbrev pub in_quotes : List ℕ → List ℕ
in_quotes path = apostrophe ∷ flat_map quoted_byte path ++ apostrophe ∷ []

-- a byte after a `%`: `f` stands for the path and `%` for a `%`; before any other the `%` stays
abbrev pub marked : List ℕ → ℕ → List ℕ
marked path b =
    if b == letter_f then in_quotes path else if b == percent then percent ∷ [] else percent ∷ b ∷ []

-- a text for a path, if it follows a `%` and if not
abbrev pub text_for : List ℕ → Bool → List ℕ → List ℕ
text_for path false [] = []
text_for path true [] = percent ∷ []
text_for path false (b ∷ text) = if b == percent then text_for path true text else b ∷ text_for path false text
text_for path true (b ∷ text) = marked path b ++ text_for path false text

-- the command for a path
abbrev pub once_command : List ℕ → List ℕ → List ℕ
once_command command path = text_for path false command
