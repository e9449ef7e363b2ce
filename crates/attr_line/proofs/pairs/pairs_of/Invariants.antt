use Rattle.std.proofs.Common.{length}
use Rattle.attr_line.proofs.Taking.{IsTaking}
use Rattle.attr_line.proofs.pairs.pairs_of.Given as goal

abbrev pub invariant-words : goal.invariant-words
invariant-words l = IsTaking l.text l.pairs.items l.rest

abbrev pub decreases-words : goal.decreases-words
decreases-words l = length l.rest
