use Rattle.std.proofs.Common.{◌≡◌, ℕ, ◌<◌, false, length, get_or, take}
use Rattle.checkout_plan.specs.Paths.{is_used}
use Rattle.checkout_plan.proofs.drivers.used_of.Given as goal

abbrev pub invariant-loop-path : goal.invariant-loop-path
invariant-loop-path l = record {
  long : length l.used.items ≡ l.count;
  used : (k : ℕ) → k < length l.used.items → get_or l.used.items k false ≡ is_used (take l.path-index l.paths) k;
}
