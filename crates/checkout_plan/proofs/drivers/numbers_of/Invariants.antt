use Rattle.std.proofs.Common.{◌≡◌, ◌≤◌, List, length}
use Rattle.checkout_plan.specs.declared.path_plan.PathPlan.{PathPlan}
use Rattle.checkout_plan.specs.Paths.{number_at}
use Rattle.checkout_plan.specs.Seen.{AreUsed, AreNumbers}
use Rattle.checkout_plan.proofs.drivers.numbers_of.Given as goal

abbrev pub invariant-loop-is_used : goal.invariant-loop-is_used
invariant-loop-is_used l = record {
  count : l.count ≤ l.is_used-index;
  length : length l.numbers.items ≡ l.is_used-index;
  at : (paths : List PathPlan) → AreUsed l.used paths → l.count ≡ number_at paths l.is_used-index;
  numbers : (paths : List PathPlan) → AreUsed l.used paths → AreNumbers l.numbers.items paths;
}
