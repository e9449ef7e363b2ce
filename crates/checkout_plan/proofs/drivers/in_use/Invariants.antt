use Rattle.std.proofs.Common.{◌≡◌, ◌++◌, List, drop}
use Rattle.checkout_plan.specs.declared.path_plan.PathPlan.{PathPlan}
use Rattle.checkout_plan.specs.Paths.{used_from}
use Rattle.checkout_plan.specs.Seen.{AreUsed}
use Rattle.checkout_plan.proofs.drivers.in_use.Given as goal

abbrev pub invariant-loop-place : goal.invariant-loop-place
invariant-loop-place l = (paths : List PathPlan) → AreUsed l.used paths → l.kept.items ++ used_from l.place paths (drop l.place l.drivers) ≡ used_from 0 paths l.drivers
