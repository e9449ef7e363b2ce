use Rattle.std.proofs.Common.{Bool, subst}
use Rattle.edge_kit.specs.Told.{Tells}
use Rattle.checkout_engine.proofs.steps.need_empty.Goals as goal

pub returns-in-Ok-false-clause-no_file : goal.returns-in-Ok-false-clause-no_file
returns-in-Ok-false-clause-no_file g c = tt

pub returns-in-Ok-false-clause-stops : goal.returns-in-Ok-false-clause-stops
returns-in-Ok-false-clause-stops g c =
    (subst (λ (b : Bool). Tells (g.T.Worktree.seen c.args.tree.now).empty b) c.in-Ok-false.field-0-test c.in-Ok-false.ensures.answer, c.in-Ok-false.ensures.faults)
