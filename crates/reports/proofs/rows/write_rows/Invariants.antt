use Rattle.std.proofs.Common.{◌≡◌, take}
use Rattle.edge_kit.specs.Files.{grown}
use Rattle.reports.specs.Written.{joined}
use Rattle.reports.proofs.rows.write_rows.Given as goal

abbrev pub invariant-loop-place : goal.invariant-loop-place
invariant-loop-place g l = let old = g.O.Sink.seen l.initial.out in
    g.O.Sink.seen l.out ≡ record old { written = grown old.written (joined (take l.place (g.R.Rows.rows l.rows l.form))) }
