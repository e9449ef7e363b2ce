use Rattle.checkin_engine.specs.Ends.{all_told}
use Rattle.checkin_engine.proofs.Finish.{all_back}
use Rattle.checkin_engine.proofs.command.checkin.Goals as goal

pub returns-clause-back : goal.returns-clause-back
returns-clause-back g c =
    all_back (all_told (g.R.Repo.told c.args.repo.now) (g.F.Files.told c.args.files.now) (g.P.Spawner.told c.args.spawner.now) (g.O.Once.told c.args.once.now)) _ _ c.check_in.result c.check_in.ensures.ends
