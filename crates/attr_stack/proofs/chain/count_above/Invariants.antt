use Rattle.std.proofs.Common.{◌≡◌, reverse, take}
use Rattle.attr_stack.specs.Levels.{levels_above}
use Rattle.attr_stack.proofs.chain.count_above.Given as goal

abbrev pub invariant-loop-place : goal.invariant-loop-place
invariant-loop-place l = levels_above l.len (reverse (take l.place l.levels)) ≡ levels_above l.len (reverse l.levels)
