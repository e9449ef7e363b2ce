use Rattle.std.proofs.Common.{◌≡◌, length, take, vec_len, vec_capacity}
use Rattle.attr_stack.proofs.macros.pairs_of.Given as goal

abbrev pub invariant-loop-pair : goal.invariant-loop-pair
invariant-loop-pair l = record {
  copy : l.copy.items ≡ take l.pair-index l.pairs;
  len : vec_len l.copy ≡ l.pair-index;
  room : vec_capacity l.copy ≡ length l.pairs;
}
