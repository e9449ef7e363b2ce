use Rattle.std.proofs.Common.{◌≡◌, ◌++◌, map, take, drop}
use Rattle.checkout_plan.specs.Seen.{renumbered}
use Rattle.checkout_plan.proofs.drivers.renumber_all.Given as goal

abbrev pub invariant-loop-path : goal.invariant-loop-path
invariant-loop-path l = l.paths ≡ map (renumbered l.numbers) (take l.path-index l.initial.paths) ++ drop l.path-index l.initial.paths
