use Rattle.std.proofs.Common.{◌≡◌, ◌++◌}
use Rattle.rehearsal.specs.Paths.{ending_in}
use Rattle.rehearsal.proofs.order.push_ending.Given as goal

abbrev pub invariant-loop-number : goal.invariant-loop-number
invariant-loop-number l = l.out.items ≡ l.initial.out.items ++ ending_in l.digit l.number
