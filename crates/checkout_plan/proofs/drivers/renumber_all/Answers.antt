use Rattle.std.proofs.lemmas.List.Edits.{map_over_more}
use Rattle.std.proofs.Common.{ap, sym, ◌∙◌, set}
use Rattle.checkout_plan.specs.declared.path_plan.PathPlan.{PathPlan}
use Rattle.checkout_plan.specs.Seen.{renumbered}
use Rattle.checkout_plan.proofs.drivers.renumber_all.Goals as goal

pub loop-path-preserved : goal.loop-path-preserved
loop-path-preserved c =
    ap (λ (p : PathPlan). set c.loop-path.paths c.loop-path.path-index p) (c.renumber.ensures ∙ ap (renumbered c.args.numbers.now) (sym c.path-item.is))
    ∙ map_over_more (renumbered c.args.numbers.now) c.args.paths.now c.loop-path.paths c.loop-path.path-index c.path-item.result c.loop-path-test.true c.loop-path.invariant c.path-item.is
