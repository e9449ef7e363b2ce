use Rattle.std.proofs.Common.{◌≡◌, ◌+◌, length, arith}
use Rattle.git_objects.proofs.DeltaLemmas.{delta_behind}
use Rattle.git_objects.proofs.delta.apply_stored.Goals as goal

pub returns-clause-content : goal.returns-clause-content
returns-clause-content c =
    let sizes = c.in_ok-size.ensures.sizes in
    let made = c.in_ok-add_sized.ensures.made in
    let counted : length c.add_sized.new.content.items ≡ length c.in_ok-stored.stored.items + c.in_ok-size.size = omega (arith, c.in_ok-add_sized.ensures.sized, c.add_sized.new.content.ok.0, c.in_ok-stored.stored.ok.0) in
    let behind = delta_behind _ _ sizes.0 _ c.in_ok-stored.stored.items _ _ made.0 sizes.1 sizes.2 made.1 counted in
    (c.in_ok-stored.stored.items, behind.0, behind.1, behind.2)
