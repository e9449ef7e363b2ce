use Rattle.std.proofs.Common.{◌≡◌, ◌++◌, reverse}
use Rattle.attr_stack.specs.Levels.{levels_before}
use Rattle.attr_stack.proofs.chain.levels_from.Given as goal

abbrev pub invariant-loop-place : goal.invariant-loop-place
invariant-loop-place l = reverse l.levels.items ++ levels_before l.folders l.text l.from ≡ levels_before l.folders l.text l.place
