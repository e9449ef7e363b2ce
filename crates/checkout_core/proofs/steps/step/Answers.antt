use Rattle.std.proofs.Common.{sym, subst}
use Rattle.checkout_core.specs.States.{Core}
use Rattle.checkout_core.specs.Cursors.{IsFollowable}
use Rattle.checkout_core.proofs.Followable.{followable}
use Rattle.checkout_core.proofs.steps.step.Goals as goal

pub apply-requires : goal.apply-requires
apply-requires c =
    subst (λ (z : Core). IsFollowable z c.in-Some.effect) (sym c.in-Some.ensures.same)
    (followable c.args.state.now c.args.event c.in-Some.effect (sym c.in-Some.ensures.effect))
