use Rattle.std.proofs.Common.{◌≡◌, take}
use Rattle.reports.specs.Written.{joined}
use Rattle.reports.proofs.rows.joined_rows.Given as goal

abbrev pub invariant-loop-place : goal.invariant-loop-place
invariant-loop-place g l = l.text.items ≡ joined (take l.place (g.R.Rows.rows l.rows l.form))
