use Rattle.std.proofs.Common.{reverse, take}
use Rattle.attr_stack.specs.Search.{Reads}
use Rattle.attr_stack.proofs.decide.read_rule.Given as goal

abbrev pub invariant-loop-place : goal.invariant-loop-place
invariant-loop-place l = Reads l.names (reverse l.pairs) l.initial.states.decided (reverse (take l.place l.pairs)) l.states.decided
