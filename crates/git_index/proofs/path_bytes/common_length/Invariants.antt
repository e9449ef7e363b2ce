use Rattle.std.proofs.Common.{◌-◌, length}
use Rattle.git_index.proofs.Changed.{IsCommonSo}
use Rattle.git_index.proofs.path_bytes.common_length.Given as goal

abbrev pub invariant-loop-same : goal.invariant-loop-same
invariant-loop-same l = IsCommonSo l.last l.path l.same

abbrev pub decreases-loop-same : goal.decreases-loop-same
decreases-loop-same l = length l.last - l.same
