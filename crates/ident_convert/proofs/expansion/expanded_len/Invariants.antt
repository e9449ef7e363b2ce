use Rattle.std.proofs.Common.{◌≤◌, length}
use Rattle.ident_convert.proofs.expansion.expanded_len.Given as goal

abbrev pub invariant-keywords : goal.invariant-keywords
invariant-keywords l = length l.rest ≤ length l.content

abbrev pub decreases-keywords : goal.decreases-keywords
decreases-keywords l = length l.rest
