use Rattle.std.proofs.Common.{◌≡◌, length, arith}
use Rattle.std.proofs.lemmas.Grind.{common_steps}
use Rattle.tree_encoding.proofs.Fronts.{sixteen_on, none_left}
use Rattle.tree_encoding.proofs.text.push_text.Goals as goal

pub text-preserved-in_ok-push_sixteen-in-Some : goal.text-preserved-in_ok-push_sixteen-in-Some
text-preserved-in_ok-push_sixteen-in-Some g c = record {
  utf8 = c.in-Some.ensures.utf8;
  same = rw c.in_ok-push_sixteen-in-Some.ensures (sixteen_on g.F.Form.bytes_of _ _ _ _ _ c.in-Some.ensures c.text.invariant.same);
}

pub returns : goal.returns
returns g c =
    let none : length c.text.rest.now ≡ 0 = grind (arith, common_steps, c.text-test.ensures) in
    none_left g.F.Form.bytes_of c.text.out.items _ c.text.rest.now none c.text.invariant.same
