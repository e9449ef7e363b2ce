use Rattle.std.proofs.Common.{◌≡◌, ℕ, Option, length, map, take, vec_len, vec_capacity}
use Rattle.std.specs.Global.{Vec}
use Rattle.attr_stack.specs.declared.macros.Body.{Body}
use Rattle.attr_stack.specs.Links.{links_of}
use Rattle.attr_stack.proofs.linked_macros.all_links.Given as goal

abbrev pub invariant-loop-body : goal.invariant-loop-body
invariant-loop-body l = record {
  links : map (λ (numbers : Vec (Option ℕ)). numbers.items) l.links.items ≡ map (λ (body : Body). links_of l.macros body.pairs) (take l.body-index l.bodies);
  len : vec_len l.links ≡ l.body-index;
  room : vec_capacity l.links ≡ length l.bodies;
}
