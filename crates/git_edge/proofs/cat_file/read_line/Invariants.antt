use Rattle.std.proofs.Common.{◌≤◌, length}
use Rattle.git_edge.proofs.cat_file.read_line.Given as goal

abbrev pub invariant-loop : goal.invariant-loop
invariant-loop l = l.had ≤ length l.into
