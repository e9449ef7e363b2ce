use Rattle.host_laws.proofs.own_runs.runs_over_processes_are_served.Goals as goal

pub returns : goal.returns
returns g c = c.sessions_are_served.ensures c.spawners_below_are_plain.ensures.processes
