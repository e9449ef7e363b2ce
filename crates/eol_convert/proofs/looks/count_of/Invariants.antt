use Rattle.std.proofs.Common.{◌≡◌, ◌+◌, length, count_by}
use Rattle.eol_convert.proofs.looks.count_of.Given as goal

abbrev pub invariant-chunks : goal.invariant-chunks
invariant-chunks g l = l.count + count_by g.K.ByteKind.has l.rest ≡ count_by g.K.ByteKind.has l.content

abbrev pub decreases-chunks : goal.decreases-chunks
decreases-chunks g l = length l.rest
