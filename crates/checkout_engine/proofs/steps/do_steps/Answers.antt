use Rattle.std.proofs.Common.{◌∙◌, inr, refl, sym, subst}
use Rattle.edge_kit.specs.Told.{RepoTold}
use Rattle.checkout_sources.specs.Reading.{IsRead}
use Rattle.checkout_engine.specs.Ends.{begun, seen}
use Rattle.checkout_engine.proofs.Done.{broken_off, done_over, over_verdicts, same_tree}
use Rattle.checkout_engine.proofs.Refused.{ends_halted, none_halted}
use Rattle.checkout_engine.proofs.steps.do_steps.Goals as goal

pub returns-in-Err : goal.returns-in-Err
returns-in-Err g c = record {
  verdicts = none_halted c.in-Err.halt c.halted.result c.halted.ensures;
  told = c.in-Err.ensures.told;
  starts = refl;
  ends = λ sink.
      ends_halted c.readings_leave_parts.ensures _ _ c.args.workers c.in-Err.halt c.halted.result
      (begun (g.R.Repo.seen c.args.repo.now) (g.T.Worktree.seen c.args.tree.now) (g.P.Spawner.seen c.args.spawner.now) sink)
      (g.R.Repo.seen c.prepare.new.repo) (g.T.Worktree.seen c.prepare.new.tree) c.halted.ensures c.in-Err.ensures.kept refl c.in-Err.ensures.stops;
}

pub write_paths-requires-clause-read : goal.write_paths-requires-clause-read
write_paths-requires-clause-read g c κs within =
    (_, subst (λ (t : RepoTold). IsRead t c.in-Ok.planned (g.R.Repo.seen c.args.repo.now) (g.R.Repo.seen c.prepare.new.repo)) (sym c.in-Ok.ensures.told) c.in-Ok.ensures.stops.2)

pub returns-in-Err-write_paths : goal.returns-in-Err-write_paths
returns-in-Err-write_paths g c = record {
  verdicts = tt;
  told = c.in-Err-write_paths.ensures.told ∙ c.in-Ok.ensures.told;
  starts = c.in-Err-write_paths.ensures.starts;
  ends = λ sink.
      let planned = c.in-Ok.planned in
      let tree = g.T.Worktree.seen c.args.tree.now in
      let old = begun (g.R.Repo.seen c.args.repo.now) tree (g.P.Spawner.seen c.args.spawner.now) sink in
      let mid = begun (g.R.Repo.seen c.prepare.new.repo) (g.T.Worktree.seen c.prepare.new.tree) (g.P.Spawner.seen c.args.spawner.now) sink in
      let new = begun (g.R.Repo.seen c.write_paths.new.repo) (g.T.Worktree.seen c.write_paths.new.tree) (g.P.Spawner.seen c.write_paths.new.spawner) sink in
      inr (broken_off _ planned.plan old mid new c.in-Ok.ensures.stops.0 c.in-Ok.ensures.stops.2.read.planned c.in-Ok.ensures.stops.2.read.seen
      (same_tree tree (g.T.Worktree.seen c.prepare.new.tree) c.in-Ok.ensures.kept c.in-Ok.ensures.stops.1) refl c.in-Err-write_paths.ensures.broken refl);
}

pub returns-in-Ok-write_paths : goal.returns-in-Ok-write_paths
returns-in-Ok-write_paths g c = record {
  verdicts = over_verdicts _ _ _ c.in-Ok-write_paths.run' _ _ _ _ _ _ c.in-Ok-write_paths.ensures.done;
  told = c.in-Ok-write_paths.ensures.told ∙ c.in-Ok.ensures.told;
  starts = c.in-Ok-write_paths.ensures.starts;
  ends = λ sink.
      let run = c.in-Ok-write_paths.run' in
      let tree = g.T.Worktree.seen c.args.tree.now in
      let old = begun (g.R.Repo.seen c.args.repo.now) tree (g.P.Spawner.seen c.args.spawner.now) sink in
      let mid = begun (g.R.Repo.seen c.prepare.new.repo) (g.T.Worktree.seen c.prepare.new.tree) (g.P.Spawner.seen c.args.spawner.now) sink in
      let new = seen (g.R.Repo.seen c.write_paths.new.repo) (g.T.Worktree.seen c.write_paths.new.tree) (g.P.Spawner.seen c.write_paths.new.spawner) sink run.history.items in
      done_over c.paths_are_ordered.ensures _ _ _ (record { planned = c.in-Ok.planned; asked = c.args.workers }) run old mid new c.in-Ok.ensures.told c.in-Ok.ensures.stops.0 c.in-Ok.ensures.no_file
      c.in-Ok.ensures.stops.2 (same_tree tree (g.T.Worktree.seen c.prepare.new.tree) c.in-Ok.ensures.kept c.in-Ok.ensures.stops.1) refl c.in-Ok-write_paths.ensures.done refl;
}
