use Rattle.host_laws.proofs.RunsAlike.{runs_alike}
use Rattle.host_laws.proofs.single_runs.workers_change_nothing_over_runs.Goals as goal

pub returns : goal.returns
returns c = runs_alike c.kept_runs_serve.ensures c.kept_runs_have_memory.ensures c.planned_paths_are_sized.ensures c.talks_decide.ensures c.talks_have_memory.ensures
