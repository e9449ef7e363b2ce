use Rattle.std.proofs.Common.{List, refl, sym, subst}
use Rattle.settings_view.specs.declared.view.Driver.{Driver}
use Rattle.checkout_plan.specs.declared.path_plan.PathPlan.{PathPlan}
use Rattle.checkout_paths.specs.Cards.{AreOrdered}
use Rattle.checkout_paths.specs.Dealing.{IsWork}
use Rattle.checkout_paths.specs.Made.{BreaksOff}
use Rattle.checkout_engine.proofs.Bounds.{planned_pace}
use Rattle.checkout_engine.proofs.Done.{run_over}
use Rattle.checkout_engine.proofs.Drivers.{planned_ordered, planned_work}
use Rattle.checkout_engine.proofs.steps.write_paths.Goals as goal

pub check_out_paths-requires-clause-work : goal.check_out_paths-requires-clause-work
check_out_paths-requires-clause-work g c κs within =
    let plan = c.args.paced.planned.plan in
    subst (λ (l : List PathPlan). IsWork l c.as_slice-drivers.result.now) (sym c.as_slice-paths.ensures)
    (subst (λ (l : List Driver). IsWork plan.paths l) (sym c.as_slice-drivers.ensures) (planned_work _ plan c.requires.read.1.read.planned))

pub check_out_paths-requires-clause-ordered : goal.check_out_paths-requires-clause-ordered
check_out_paths-requires-clause-ordered g c κs within =
    subst (λ (l : List PathPlan). AreOrdered l) (sym c.as_slice-paths.ensures)
    (planned_ordered c.paths_are_ordered.ensures _ c.args.paced.planned.plan c.requires.read.1.read.planned)

pub check_out_paths-requires-clause-pace : goal.check_out_paths-requires-clause-pace
check_out_paths-requires-clause-pace g c κs within = planned_pace _ c.args.paced.planned _ _ _ c.requires.asked c.requires.read.1 refl

pub returns-in_default-clause-broken : goal.returns-in_default-clause-broken
returns-in_default-clause-broken g c =
    let plan = c.args.paced.planned.plan in
    let breaks = λ (l : List PathPlan) (ds : List Driver). BreaksOff l ds (g.R.Repo.seen c.args.repo.now) (g.R.Repo.seen c.check_out_paths.new.repo)
    (g.T.Worktree.seen c.args.tree.now) (g.T.Worktree.seen c.check_out_paths.new.tree) (g.P.Spawner.seen c.args.spawner.now) (g.P.Spawner.seen c.check_out_paths.new.spawner) in
    subst (λ (l : List PathPlan). breaks l plan.drivers) c.as_slice-paths.ensures
    (subst (λ (ds : List Driver). breaks c.as_slice-paths.result.now ds) c.as_slice-drivers.ensures c.in_default.ensures.broken)

pub returns-clause-done : goal.returns-clause-done
returns-clause-done g c =
    run_over _ _ c.args.paced _ _ _ _ _ _ _ _ _ refl c.as_slice-paths.ensures c.as_slice-drivers.ensures c.in-Ok.ensures.ended c.in-Ok.ensures.run
