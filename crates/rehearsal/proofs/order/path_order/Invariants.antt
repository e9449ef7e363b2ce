use Rattle.std.proofs.Common.{◌≡◌}
use Rattle.rehearsal.specs.Paths.{ending_below}
use Rattle.rehearsal.proofs.order.path_order.Given as goal

abbrev pub invariant-loop-digit : goal.invariant-loop-digit
invariant-loop-digit l = l.order.items ≡ ending_below l.digit l.count
