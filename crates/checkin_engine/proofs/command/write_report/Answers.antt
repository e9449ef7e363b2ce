use Rattle.std.proofs.Common.{List, ℕ, ap, sym, subst, ◌∙◌}
use Rattle.exit_status.specs.declared.status.ExitStatus.{ExitStatus}
use Rattle.checkin_engine.specs.Ends.{with_text}
use Rattle.checkin_engine.specs.Ending.{WritesReport}
use Rattle.checkin_engine.proofs.Finish.{reports}
use Rattle.checkin_engine.proofs.command.write_report.Goals as goal

pub returns-in-Ok-write : goal.returns-in-Ok-write
returns-in-Ok-write g c =
    let old = g.S.Sink.seen c.args.out.now in
    let new = g.S.Sink.seen c.write.new.self in
    subst (λ (s : ExitStatus). WritesReport c.args.paths.now c.args.fates.now old new s) (sym c.status_of.ensures)
    (reports c.args.paths.now c.args.fates.now old new (c.in-Ok-write.ensures ∙ ap (λ (text : List ℕ). with_text text old) (c.deref.ensures.value ∙ c.in-Ok.ensures)))
