-- Which pair decides each attribute of a path.
use Rattle.std.specs.Prelude.{◌≡◌, ℕ, zero, suc, ◌+◌, Bool, true, false, ◌||◌, List, [], ◌∷◌, ◌++◌, length}
use Rattle.std.specs.Prelude.{reverse, Option, Some, None, if◌then◌else◌}
use Rattle.std.specs.List.{sum_by}
use Rattle.std.specs.Option.{unwrap_or}
use Rattle.std.specs.Str.{bytes_eq}
use Rattle.attr_line.specs.declared.state.AttrState.{AttrState}
use Rattle.attr_line.specs.declared.state.AttrState.TheVariants.{Set, Unspecified}
use Rattle.attr_line.specs.declared.file.Pair.{Pair}
use Rattle.attr_stack.specs.declared.files.AttrFiles.{AttrFiles}
use Rattle.attr_stack.specs.Macros.{MacroLine, macros_of, meaning}
use Rattle.attr_stack.specs.Pairs.{pairs_of}

-- a set of names, as the test for them
abbrev pub Names : Type 0
Names = List ℕ → Bool

abbrev pub no_names : Names
no_names name = false

abbrev pub with_name : List ℕ → Names → Names
with_name name names other = bytes_eq name other || names other

-- what is read at the point of a pair that decides: the pairs of the macro that it sets, from last to first
abbrev pub body_at : List MacroLine → List ℕ → AttrState → List Pair
body_at macros name Set = reverse (meaning macros name)
body_at macros name state = []

abbrev pub body_of : List MacroLine → Pair → List Pair
body_of macros pair = body_at macros pair.name pair.state

-- the pairs that decide, if at most n pairs are read: the first of each name that isn't decided yet. What it sets is
-- read before the rest.
abbrev pub decided_within : ℕ → List MacroLine → List Pair → Names → List Pair
decided_within zero macros pairs names = []
decided_within (suc n) macros [] names = []
decided_within (suc n) macros (pair ∷ rest) names =
    if names pair.name then decided_within n macros rest names
    else pair ∷ decided_within n macros (body_of macros pair ++ rest) (with_name pair.name names)

-- each pair is read at most once, and so is each macro's line
abbrev pub line_length : MacroLine → ℕ
line_length line = length line.pairs

abbrev pub most_read : List MacroLine → List Pair → ℕ
most_read macros pairs = length pairs + sum_by line_length macros

-- the pairs that decide
unfoldable pub decided : List MacroLine → List Pair → Names → List Pair
decided macros pairs names = decided_within (most_read macros pairs) macros pairs names

-- the rule in full, which no number bounds
pub record IsDecidedByRule : Type 0 where
  pub none : (macros : List MacroLine) (names : Names) → decided macros [] names ≡ []
  pub passed : (macros : List MacroLine) (pair : Pair) (rest : List Pair) (names : Names) → names pair.name
      ≡ true → decided macros (pair ∷ rest) names ≡ decided macros rest names
  pub decides : (macros : List MacroLine) (pair : Pair) (rest : List Pair) (names : Names) → names pair.name ≡ false
      → decided macros (pair ∷ rest) names
      ≡ pair ∷ decided macros (body_of macros pair ++ rest) (with_name pair.name names)

-- what the first pair of a name says
abbrev pub said_of : List Pair → List ℕ → Option AttrState
said_of [] name = None
said_of (pair ∷ rest) name = if bytes_eq pair.name name then Some pair.state else said_of rest name

-- what the pairs of a path say of a name
abbrev pub decision : AttrFiles → List ℕ → List ℕ → Option AttrState
decision files path name = said_of (decided (macros_of files) (pairs_of files path) no_names) name

-- an attribute that nothing decides is unspecified
abbrev pub state_of : AttrFiles → List ℕ → List ℕ → AttrState
state_of files path name = unwrap_or (decision files path name) Unspecified
