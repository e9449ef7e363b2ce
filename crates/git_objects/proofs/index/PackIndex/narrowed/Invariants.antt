use Rattle.std.proofs.Common.{◌≤◌, ◌-◌}
use Rattle.git_objects.proofs.index.PackIndex.narrowed.Given as goal

abbrev pub invariant-loop-high : goal.invariant-loop-high
invariant-loop-high l = record {
  ordered : l.low ≤ l.high;
  within : l.high ≤ l.fn.range.1;
}

abbrev pub decreases-loop-high : goal.decreases-loop-high
decreases-loop-high l = l.high - l.low
