use Rattle.std.proofs.Common.{List, ◌++◌, reverse, take}
use Rattle.std.specs.List.{flat_map}
use Rattle.attr_stack.specs.Macros.{MacroLine, row_macros}
use Rattle.attr_stack.specs.Numbers.{AreMacros}
use Rattle.attr_stack.proofs.macros.define_rows.Given as goal

abbrev pub invariant-loop-row : goal.invariant-loop-row
invariant-loop-row l = (lines : List MacroLine) → AreMacros l.initial.macros lines → AreMacros l.macros (flat_map row_macros (reverse (take l.row-index l.rows)) ++ lines)
