use Rattle.std.proofs.Common.{refl}
use Rattle.checkout_engine.proofs.SmallRuns.{run_rehearsed, run_small}
use Rattle.checkout_engine.proofs.rehearsed.rehearsed_run.Goals as goal

pub returns-clause-rehearsed : goal.returns-clause-rehearsed
returns-clause-rehearsed g c = run_rehearsed c.args.seed c.args.paths c.in_ok-run.run' _ _ _ c.in_ok-run.ensures refl refl

pub returns-clause-small : goal.returns-clause-small
returns-clause-small g c =
    run_small c.drivers_are_in_use.ensures c.closed_paths_have_causes.ensures c.a_history_is_short.ensures c.args.seed c.args.paths _ _ _ _
    (run_rehearsed c.args.seed c.args.paths c.in_ok-run.run' _ _ _ c.in_ok-run.ensures refl refl)
