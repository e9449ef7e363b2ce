use Rattle.std.proofs.Common.{◌≡◌, ◌++◌, reverse, take}
use Rattle.attr_stack.specs.Seen.{from_end}
use Rattle.attr_stack.proofs.reach.push_pairs.Given as goal

abbrev pub invariant-loop-pair : goal.invariant-loop-pair
invariant-loop-pair l = from_end l.pending.items ≡ reverse (take l.pair-index l.pairs) ++ from_end l.initial.pending.items
