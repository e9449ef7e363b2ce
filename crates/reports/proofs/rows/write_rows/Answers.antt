use Rattle.std.proofs.Common.{Some, sym, ap, ◌∙◌}
use Rattle.reports.proofs.Joined.{row_on, row_cut}
use Rattle.reports.proofs.rows.write_rows.Goals as goal

pub returns-in-Err : goal.returns-in-Err
returns-in-Err g c =
    row_cut Unit (g.O.Sink.seen c.args.out.now) (g.O.Sink.seen c.loop-place.out) (g.O.Sink.seen c.write_row.new.out)
    (g.R.Rows.rows c.args.rows.now c.args.form) c.loop-place.place c.deref.result.now c.in-Err.fault
    (c.in_ok-row.ensures ∙ ap Some (sym c.deref.ensures.value)) c.loop-place.invariant (c.in-Err.ensures)

pub loop-place-preserved : goal.loop-place-preserved
loop-place-preserved g c =
    row_on (g.O.Sink.seen c.args.out.now) (g.O.Sink.seen c.loop-place.out) (g.O.Sink.seen c.write_row.new.out)
    (g.R.Rows.rows c.args.rows.now c.args.form) c.loop-place.place c.deref.result.now
    (c.in_ok-row.ensures ∙ ap Some (sym c.deref.ensures.value)) c.loop-place.invariant (c.in-Ok.ensures)
