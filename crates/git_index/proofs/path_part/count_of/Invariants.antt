use Rattle.std.proofs.Common.{length}
use Rattle.git_index.specs.Reading.{count_at}
use Rattle.git_index.proofs.Counting.{IsCounting}
use Rattle.git_index.proofs.path_part.count_of.Given as goal

abbrev pub invariant-loop-byte : goal.invariant-loop-byte
invariant-loop-byte l = IsCounting l.carry l.rest (count_at 0 l.bytes)

abbrev pub decreases-loop-byte : goal.decreases-loop-byte
decreases-loop-byte l = length l.rest
