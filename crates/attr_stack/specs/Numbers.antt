-- The numbers of macros.
use Rattle.std.specs.Prelude.{◌≡◌, ℕ, List, [], Option, Some, None, slice_get, if◌then◌else◌}
use Rattle.std.specs.Cmp.Lexicographic.{slice_cmp}
use Rattle.std.specs.Ordering.{nat_cmp}
use Rattle.std.specs.BTreeMap as tree
use Rattle.std.specs.Str.{bytes_eq}
use Rattle.std.specs.Global.{Vec}
use Rattle.attr_line.specs.declared.file.Pair.{Pair}
use Rattle.attr_stack.specs.declared.macros.Body.{Body}
use Rattle.attr_stack.specs.declared.macros.Macros.{Macros}
use Rattle.attr_stack.specs.Macros.{MacroLine, meaning}

-- the number of a body with this name
abbrev pub numbered : List ℕ → ℕ → Option Body → Option ℕ
numbered name number None = None
numbered name number (Some body) = if bytes_eq body.name name then Some number else None

abbrev pub number_from : Macros → List ℕ → Option ℕ → Option ℕ
number_from macros name None = None
number_from macros name (Some number) = numbered name number (slice_get macros.bodies.items number)

-- the number of a macro: the place of its body, which has its name
abbrev pub number_at : Macros → List ℕ → Option ℕ
number_at macros name =
    number_from macros name (tree.get_by (λ (key : Vec ℕ). slice_cmp nat_cmp name key.items) macros.numbers)

abbrev pub body_pairs : Option Body → List Pair
body_pairs None = []
body_pairs (Some body) = body.pairs

-- the pairs of the macro with a number
abbrev pub number_pairs : Macros → Option ℕ → List Pair
number_pairs macros None = []
number_pairs macros (Some number) = body_pairs (slice_get macros.bodies.items number)

-- the pairs of a macro, and none for another name
abbrev pub pairs_at : Macros → List ℕ → List Pair
pairs_at macros name = number_pairs macros (number_at macros name)

-- these macros give each name the meaning that these lines give it
abbrev pub AreMacros : Macros → List MacroLine → Type 0
AreMacros macros lines = (name : List ℕ) → pairs_at macros name ≡ meaning lines name
