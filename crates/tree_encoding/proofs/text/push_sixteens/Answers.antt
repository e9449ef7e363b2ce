use Rattle.std.proofs.Common.{ap, ◌∙◌}
use Rattle.std.specs.Char.{is_ascii}
use Rattle.std.specs.List.{list_all}
use Rattle.tree_encoding.proofs.Chunks.{all_taken, all_dropped, front_on}
use Rattle.tree_encoding.proofs.text.push_sixteens.Goals as goal

pub push_sixteen-requires : goal.push_sixteen-requires
push_sixteen-requires g c = ap (list_all is_ascii) c.in-Some.ensures.cases.0 ∙ all_taken is_ascii 16 c.ascii.rest.now c.ascii.invariant.all

pub ascii-preserved : goal.ascii-preserved
ascii-preserved g c = record {
  all = ap (list_all is_ascii) c.in-Some.ensures.cases.1 ∙ all_dropped is_ascii 16 c.ascii.rest.now c.ascii.invariant.all;
  same = rw c.in_ok-push_sixteen.ensures (front_on g.F.Form.bytes_of 16 _ _ _ _ _ c.in-Some.ensures.cases.0 c.in-Some.ensures.cases.1 c.ascii.invariant.same);
}
