use Rattle.host_laws.proofs.RunsGive.{runs_give}
use Rattle.host_laws.proofs.single_runs.single_runs_give_all.Goals as goal

pub returns : goal.returns
returns c = runs_give c.kept_runs_serve.ensures c.kept_runs_have_memory.ensures
