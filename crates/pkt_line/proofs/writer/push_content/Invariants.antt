use Rattle.std.proofs.Common.{length, vec_len, vec_capacity}
use Rattle.pkt_line.proofs.Pieces.{IsUnderway}
use Rattle.pkt_line.proofs.writer.push_content.Given as goal

abbrev pub invariant-loop-rest : goal.invariant-loop-rest
invariant-loop-rest l =
    IsUnderway l.initial.out.items l.content l.out.items l.rest (vec_len l.out) (vec_capacity l.out)

abbrev pub decreases-loop-rest : goal.decreases-loop-rest
decreases-loop-rest l = length l.rest
