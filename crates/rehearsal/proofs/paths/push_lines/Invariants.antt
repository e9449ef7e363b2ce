use Rattle.std.proofs.Common.{◌≡◌, ◌++◌}
use Rattle.rehearsal.specs.Paths.{lines}
use Rattle.rehearsal.proofs.paths.push_lines.Given as goal

abbrev pub invariant-loop-line : goal.invariant-loop-line
invariant-loop-line l = l.out.items ≡ l.initial.out.items ++ lines l._line
