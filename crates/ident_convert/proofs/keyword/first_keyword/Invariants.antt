use Rattle.std.proofs.Common.{◌-◌, length}
use Rattle.ident_convert.proofs.Keywords.{IsQuiet}
use Rattle.ident_convert.proofs.keyword.first_keyword.Given as goal

abbrev pub invariant-dollars : goal.invariant-dollars
invariant-dollars l = IsQuiet l.text l.place

abbrev pub decreases-dollars : goal.decreases-dollars
decreases-dollars l = length l.text - l.place
