use Rattle.std.proofs.Common.{sym, subst}
use Rattle.edge_kit.specs.Told.{RepoTold}
use Rattle.checkout_sources.specs.Reading.{IsRead}
use Rattle.checkout_engine.proofs.Tried.{tried}
use Rattle.checkout_engine.proofs.rehearsed.tried.Goals as goal

pub write_paths-requires-clause-read : goal.write_paths-requires-clause-read
write_paths-requires-clause-read g c κs within =
    (_, subst (λ (t : RepoTold). IsRead t c.in_ok-planned.planned (g.R.Repo.seen c.args.repo.now) (g.R.Repo.seen c.valid_plan.new.repo)) (sym c.in_ok-planned.ensures.told) c.in_ok-planned.ensures.read)

pub returns : goal.returns
returns g c =
    tried c.paths_are_ordered.ensures _ _ _ c.in_ok-planned.planned c.in_ok-run.run' _ _ _ _ _ _ _ c.in_ok-planned.ensures.told c.requires.repo c.requires.tree c.requires.spawner
    c.in_ok-planned.ensures.read c.in_ok-run.ensures.done
