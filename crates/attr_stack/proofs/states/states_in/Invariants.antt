use Rattle.std.proofs.Common.{◌≡◌, length, map, take, vec_len, vec_capacity}
use Rattle.attr_stack.specs.Seen.{said_in}
use Rattle.attr_stack.proofs.states.states_in.Given as goal

abbrev pub invariant-loop-name : goal.invariant-loop-name
invariant-loop-name l = record {
  states : l.states.items ≡ map (said_in l.decided.decided) (take l.name-index l.names);
  len : vec_len l.states ≡ l.name-index;
  room : vec_capacity l.states ≡ length l.names;
}
