use Rattle.std.proofs.Common.{◌≡◌, length, count_by}
use Rattle.eol_convert.proofs.looks.has_none.Given as goal

abbrev pub invariant-chunks : goal.invariant-chunks
invariant-chunks g l = count_by g.K.ByteKind.has l.content ≡ count_by g.K.ByteKind.has l.rest

abbrev pub decreases-chunks : goal.decreases-chunks
decreases-chunks g l = length l.rest
