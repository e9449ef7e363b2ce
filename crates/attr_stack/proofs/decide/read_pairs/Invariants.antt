use Rattle.std.proofs.Common.{length}
use Rattle.attr_stack.specs.Search.{Reads}
use Rattle.attr_stack.specs.Seen.{from_end}
use Rattle.attr_stack.proofs.decide.read_pairs.Given as goal

abbrev pub invariant-reading : goal.invariant-reading
invariant-reading l = Reads l.names (from_end l.initial.pending.items) l.initial.states.decided (from_end l.pending.items) l.states.decided

abbrev pub decreases-reading : goal.decreases-reading
decreases-reading l = length l.pending.items
