-- What a search for the states of some names has found so far.
use Rattle.std.specs.Prelude.{◌≡◌, ℕ, true, List, ◌++◌, Option, Some, None, is_some}
use Rattle.std.specs.List.{list_any}
use Rattle.std.specs.Str.{bytes_eq}
use Rattle.attr_line.specs.declared.state.AttrState.{AttrState}
use Rattle.attr_line.specs.declared.file.Pair.{Pair}
use Rattle.attr_stack.specs.declared.noted.Decided.{Decided as Kept}
use Rattle.attr_stack.specs.Macros.{MacroLine}
use Rattle.attr_stack.specs.Decided.{Names, decided, said_of}
use Rattle.attr_stack.specs.Numbers.{AreMacros}
use Rattle.attr_stack.specs.Seen.{state_at}

-- what is decided of each name so far
abbrev pub Noted : Type 0
Noted = List ℕ → Option AttrState

-- the names that something is decided of
abbrev pub known : Noted → Names
known states name = is_some (states name)

abbrev pub or_else : Option AttrState → Option AttrState → Option AttrState
or_else (Some state) later = Some state
or_else None later = later

-- what is decided so far, or else by the pairs that are left
abbrev pub still_of : List MacroLine → List Pair → Noted → List ℕ → Option AttrState
still_of lines pairs states name = or_else (states name) (said_of (decided lines pairs (known states)) name)

-- whether a name is asked for
abbrev pub is_asked : List (List ℕ) → Names
is_asked names name = list_any (λ (other : List ℕ). bytes_eq other name) names

-- Of each name that is asked for, the same is decided by the pairs before, after what was noted then, as by the pairs
-- that are left, after what is noted now.
abbrev pub Leads : List MacroLine → Names → List Pair → Noted → List Pair → Noted → Type 0
Leads lines asked pairs old left new = (rest : List Pair) (name : List ℕ) → asked name ≡ true
    → still_of lines (pairs ++ rest) old name ≡ still_of lines (left ++ rest) new name

-- the same for what the code keeps, whose macros stay as they mean
abbrev pub Reads : List (List ℕ) → List Pair → Kept → List Pair → Kept → Type 0
Reads names pairs old left new = (lines : List MacroLine) → AreMacros old.macros.now.macros lines
    → AreMacros new.macros.now.macros lines × Leads lines (is_asked names) pairs (state_at old) left (state_at new)
