use Rattle.std.proofs.Common.{reverse, take}
use Rattle.std.specs.List.{flat_map}
use Rattle.attr_stack.specs.Levels.{level_pairs}
use Rattle.attr_stack.specs.Search.{Reads}
use Rattle.attr_stack.proofs.stack.read_levels.Given as goal

abbrev pub invariant-loop-place : goal.invariant-loop-place
invariant-loop-place l =
    Reads l.names (flat_map (level_pairs l.path) (reverse l.levels)) l.initial.states.decided (flat_map (level_pairs l.path) (reverse (take l.place l.levels))) l.states.decided
