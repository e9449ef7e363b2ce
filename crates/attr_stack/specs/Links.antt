-- Macros that are read by their numbers.
use Rattle.std.specs.Prelude.{◌≡◌, ℕ, List, map, reverse, take, Option, Some}
use Rattle.std.specs.List.{flat_map}
use Rattle.std.specs.Global.{Vec}
use Rattle.attr_line.specs.declared.file.Pair.{Pair}
use Rattle.attr_stack.specs.declared.linked_macros.Frame.{Frame}
use Rattle.attr_stack.specs.declared.macros.Body.{Body}
use Rattle.attr_stack.specs.declared.macros.Macros.{Macros}
use Rattle.attr_stack.specs.Numbers.{number_at, number_pairs}

-- the number of the macro that each pair names, if it names one
abbrev pub links_of : Macros → List Pair → List (Option ℕ)
links_of macros pairs = map (λ (pair : Pair). number_at macros pair.name) pairs

-- the numbers that the pairs of each macro name
abbrev pub AreLinks : Macros → List (Vec (Option ℕ)) → Type 0
AreLinks macros links =
    map (λ (numbers : Vec (Option ℕ)). numbers.items) links
    ≡ map (λ (body : Body). links_of macros body.pairs) macros.bodies.items

-- the pairs that are left of a macro, from last to first
abbrev pub frame_pairs : Macros → Frame → List Pair
frame_pairs macros frame = reverse (take frame.left (number_pairs macros (Some frame.number)))

-- the pairs that are left of macros, of which the last is read first
abbrev pub left_of : Macros → List Frame → List Pair
left_of macros frames = flat_map (frame_pairs macros) (reverse frames)
