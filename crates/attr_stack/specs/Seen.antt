-- What the lists and maps of the code say.
use Rattle.std.specs.Prelude.{◌≡◌, ℕ, Bool, true, false, List, map, reverse, Option, Some, None, is_some, slice_get, if◌then◌else◌}
use Rattle.std.specs.List.{All}
use Rattle.std.specs.Option.{option_map, unwrap_or, ForSome}
use Rattle.std.specs.Cmp.Lexicographic.{slice_cmp}
use Rattle.std.specs.Ordering.{nat_cmp}
use Rattle.std.specs.BTreeMap as tree
use Rattle.std.specs.BTreeMap.{BTreeMap}
use Rattle.std.specs.Str.{bytes_eq}
use denote.Ref.{Bor}
use Rattle.attr_line.specs.declared.state.AttrState.{AttrState}
use Rattle.attr_line.specs.declared.state.AttrState.TheVariants.{Unspecified}
use Rattle.attr_line.specs.declared.file.Pair.{Pair}
use Rattle.attr_stack.specs.declared.noted.Decided.{Decided}
use Rattle.attr_stack.specs.Numbers.{number_at}

-- pairs that are read from the end of a list
abbrev pub from_end : List (Bor Pair) → List Pair
from_end pairs = reverse (map (λ (pair : Bor Pair). pair.now) pairs)

-- what a map has for a name that isn't a macro
abbrev pub other_at : BTreeMap (Bor (List ℕ)) (Bor AttrState) → List ℕ → Option AttrState
other_at others name =
    option_map (λ (state : Bor AttrState). state.now)
    (tree.get_by (λ (key : Bor (List ℕ)). slice_cmp nat_cmp name key.now) others)

-- what a mark says, if there is one
abbrev pub marked : Option (Option (Bor AttrState)) → Option AttrState → Option AttrState
marked None other = other
marked (Some mark) other = option_map (λ (state : Bor AttrState). state.now) mark

abbrev pub mark_at : List (Option (Bor AttrState)) → Option ℕ → Option (Option (Bor AttrState))
mark_at marks None = None
mark_at marks (Some number) = slice_get marks number

-- what is decided of a name with this number
abbrev pub said_by : Decided → List ℕ → Option ℕ → Option AttrState
said_by states name number = marked (mark_at states.marks.items number) (other_at states.others name)

-- what is decided of a name: at the number of a macro, and of another name in the map
abbrev pub state_at : Decided → List ℕ → Option AttrState
state_at states name = said_by states name (number_at states.macros.now.macros name)

-- something is decided of each name that stands at one of these places
abbrev pub AreKnown : List (Option (Bor (List ℕ))) → Decided → Type 0
AreKnown recent states =
    All (λ (slot : Option (Bor (List ℕ))). ForSome slot (λ name. is_some (state_at states name.now) ≡ true)) recent

-- what is decided of a name, or else that nothing is
abbrev pub said_in : Decided → List ℕ → AttrState
said_in states name = unwrap_or (state_at states name) Unspecified

-- the states with that of a pair
abbrev pub with_state : Pair → (List ℕ → Option AttrState) → List ℕ → Option AttrState
with_state pair states name = if bytes_eq pair.name name then Some pair.state else states name

-- a pair decides if nothing was decided of its name: its state is added then, and otherwise none changes
abbrev pub Notes : Pair → (List ℕ → Option AttrState) → (List ℕ → Option AttrState) → Bool → Type 0
Notes pair old new true = (is_some (old pair.name) ≡ false) × ((name : List ℕ) → new name ≡ with_state pair old name)
Notes pair old new false = (is_some (old pair.name) ≡ true) × ((name : List ℕ) → new name ≡ old name)
