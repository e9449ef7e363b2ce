use Rattle.std.proofs.Common.{◌≡◌, ◌++◌, length, false}
use Rattle.one_shot.specs.Commands.{text_for, once_command}
use Rattle.one_shot.proofs.command.once_command.Given as goal

abbrev pub invariant-fronts : goal.invariant-fronts
invariant-fronts l = l.text.items ++ text_for l.fn.path false l.rest ≡ once_command l.fn.command l.fn.path

abbrev pub decreases-fronts : goal.decreases-fronts
decreases-fronts l = length l.rest
