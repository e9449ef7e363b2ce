use Rattle.std.proofs.Common.{◌≡◌, ◌++◌, map, drop}
use Rattle.checkin_paths.specs.PlannedWays.{planned_path, planned_paths}
use Rattle.checkin_paths.proofs.paths.planned_paths.Given as goal

abbrev pub invariant-loop-path : goal.invariant-loop-path
invariant-loop-path l = l.paths.items ++ map (planned_path l.drivers) (drop l.path-index l.plan) ≡ planned_paths l.drivers l.plan
