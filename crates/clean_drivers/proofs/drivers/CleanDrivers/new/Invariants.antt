use Rattle.std.proofs.Common.{◌≡◌, replicate, None}
use Rattle.clean_drivers.proofs.drivers.CleanDrivers.new.Given as goal

abbrev pub invariant-loop : goal.invariant-loop
invariant-loop g l = l.lines.items ≡ replicate l.counter None
