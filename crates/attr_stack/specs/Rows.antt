-- The rows of an attribute file, by their patterns.
use Rattle.std.specs.Prelude.{ℕ, List, [], reverse}
use Rattle.std.specs.List.{flat_map}
use Rattle.attr_line.specs.declared.file.Pair.{Pair}
use Rattle.attr_line.specs.declared.file.AttrRow.{AttrRow}
use Rattle.attr_line.specs.declared.file.AttrRow.TheVariants.{Rule, Macro}
use Rattle.attr_stack.specs.Pairs.{row_pairs}

-- the pattern of a row; a macro's line has none
abbrev pub row_pattern : AttrRow → List ℕ
row_pattern (Rule pattern pairs) = pattern
row_pattern (Macro name pairs) = []

-- what a row says of the paths that it matches
abbrev pub row_rule : AttrRow → List Pair
row_rule (Rule pattern pairs) = pairs
row_rule (Macro name pairs) = []

-- the pairs of rows, from last to first
abbrev pub rows_pairs : List ℕ → List AttrRow → List Pair
rows_pairs path rows = flat_map (row_pairs path) (reverse rows)
