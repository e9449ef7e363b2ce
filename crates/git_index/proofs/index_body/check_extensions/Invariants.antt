use Rattle.std.proofs.Common.{length}
use Rattle.git_index.specs.Reading.{extensions_fault}
use Rattle.git_index.proofs.Loop.{IsPassing}
use Rattle.git_index.proofs.index_body.check_extensions.Given as goal

abbrev pub invariant-loop-rest : goal.invariant-loop-rest
invariant-loop-rest l = IsPassing l.rest (extensions_fault (length l.bytes) l.bytes)

abbrev pub decreases-loop-rest : goal.decreases-loop-rest
decreases-loop-rest l = length l.rest
