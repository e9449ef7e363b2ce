use Rattle.std.proofs.Common.{◌≡◌}
use Rattle.attr_stack.specs.Links.{left_of}
use Rattle.attr_stack.specs.Search.{known, is_asked, Leads}
use Rattle.attr_stack.specs.Seen.{state_at}
use Rattle.attr_stack.proofs.Frames.{work}
use Rattle.attr_stack.proofs.Maps.{lines_in}
use Rattle.attr_stack.proofs.decide.read_macros.Given as goal

abbrev pub invariant-reading : goal.invariant-reading
invariant-reading l = record {
  macros : l.states.decided.macros ≡ l.initial.states.decided.macros;
  leads : Leads (lines_in l.initial.states.decided.macros.now.macros) (is_asked l.names)
      (left_of l.initial.states.decided.macros.now.macros l.initial.frames.items) (state_at l.initial.states.decided)
      (left_of l.initial.states.decided.macros.now.macros l.frames.items) (state_at l.states.decided);
}

abbrev pub decreases-reading : goal.decreases-reading
decreases-reading l =
    work (lines_in l.initial.states.decided.macros.now.macros) l.initial.states.decided.macros.now.macros l.frames.items (known (state_at l.states.decided))
