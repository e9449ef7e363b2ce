use Rattle.std.proofs.Common.{◌≡◌, length, take, vec_len, vec_capacity}
use Rattle.attr_stack.specs.Links.{links_of}
use Rattle.attr_stack.proofs.linked_macros.links_of.Given as goal

abbrev pub invariant-loop-pair : goal.invariant-loop-pair
invariant-loop-pair l = record {
  links : l.links.items ≡ links_of l.macros (take l.pair-index l.pairs);
  len : vec_len l.links ≡ l.pair-index;
  room : vec_capacity l.links ≡ length l.pairs;
}
