use Rattle.std.proofs.Common.{◌≡◌, ℕ, List, length, subst, arith}
use Rattle.git_objects.specs.Delta.{Makes}
use Rattle.git_objects.proofs.DeltaLemmas.{delta_alone}
use Rattle.git_objects.proofs.delta.apply_delta.Goals as goal

pub returns-clause-content : goal.returns-clause-content
returns-clause-content c =
    let sizes = c.in_ok-size.ensures.sizes in
    let made = c.in_ok-add_sized.ensures.made in
    let alone = subst (λ (x : List ℕ). Makes c.args.base.now made.0 c.in_ok-size.rest.now x c.add_sized.new.content.items) c.in_ok-content.ensures.items made.1 in
    let counted : length c.add_sized.new.content.items ≡ c.in_ok-size.size = omega (arith, c.in_ok-add_sized.ensures.sized, c.add_sized.new.content.ok.0, c.in_ok-content.ensures.len) in
    delta_alone _ _ sizes.0 _ _ _ made.0 sizes.1 sizes.2 alone counted
