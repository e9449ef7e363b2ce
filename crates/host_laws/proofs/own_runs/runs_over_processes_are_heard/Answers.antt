use Rattle.host_laws.proofs.Runs.{own_heard}
use Rattle.host_laws.proofs.own_runs.runs_over_processes_are_heard.Goals as goal

pub returns : goal.returns
returns g c = own_heard c.single_runs_are_heard.ensures _ _ c.runs_over_processes_are_served.ensures
