-- What `git check-attr` prints.
use Rattle.std.specs.Prelude.{ℕ, List, [], ◌∷◌, ◌++◌, codes}
use Rattle.attr_line.specs.declared.state.AttrState.{AttrState}
use Rattle.attr_line.specs.declared.state.AttrState.TheVariants.{Set, Unset, Unspecified, Value}
use Rattle.byte_path.specs.Characters.{line_feed}

abbrev pub state_text : AttrState → List ℕ
state_text Set = codes "set"
state_text Unset = codes "unset"
state_text Unspecified = codes "unspecified"
state_text (Value value) = value

-- a path as it is shown, with a name and its state
abbrev pub line : List ℕ → List ℕ → AttrState → List ℕ
line shown name state = shown ++ codes ": " ++ name ++ codes ": " ++ state_text state ++ line_feed ∷ []

-- a line for each name
abbrev pub answer : List ℕ → List (List ℕ) → List AttrState → List ℕ
answer shown [] states = []
answer shown (name ∷ names) [] = []
answer shown (name ∷ names) (state ∷ states) = line shown name state ++ answer shown names states
