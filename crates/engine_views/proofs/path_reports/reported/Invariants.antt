use Rattle.std.proofs.Common.{◌≡◌, length}
use Rattle.engine_views.proofs.path_reports.reported.Given as goal

-- each path has its verdict
abbrev pub invariant-loop-three : goal.invariant-loop-three
invariant-loop-three l = length l.paths.items ≡ length l.verdicts.items
