use Rattle.host_laws.proofs.Runs.{are_heard}
use Rattle.host_laws.proofs.single_runs.single_runs_are_heard.Goals as goal

pub returns : goal.returns
returns c = are_heard c.kept_runs_serve.ensures c.kept_runs_have_memory.ensures c.a_path_gets_one_content.ensures c.planned_paths_are_sized.ensures c.talks_have_memory.ensures
