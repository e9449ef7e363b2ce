use Rattle.std.proofs.Common.{◌≡◌, ◌++◌, reverse, take}
use Rattle.std.specs.List.{flat_map}
use Rattle.attr_stack.specs.Pairs.{row_pairs}
use Rattle.attr_stack.specs.Seen.{from_end}
use Rattle.attr_stack.proofs.reach.push_file.Given as goal

abbrev pub invariant-loop-row : goal.invariant-loop-row
invariant-loop-row l = from_end l.pending.items ≡ flat_map (row_pairs l.path) (reverse (take l.row-index l.rows)) ++ from_end l.initial.pending.items
