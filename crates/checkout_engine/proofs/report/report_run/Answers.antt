use Rattle.std.proofs.Common.{List, ap, ◌∙◌, subst}
use Rattle.checkout_core.specs.declared.verdict.Verdict.{Verdict}
use Rattle.checkout_plan.specs.declared.path_plan.PathPlan.{PathPlan}
use Rattle.exit_status.specs.declared.status.ExitStatus.{ExitStatus}
use Rattle.exit_status.specs.Said.{SaysRows}
use Rattle.run_report.specs.Rows.{run_rows}
use Rattle.checkout_engine.specs.Report.{status_of}
use Rattle.checkout_engine.proofs.report.report_run.Goals as goal

pub returns : goal.returns
returns g c =
    let form = c.args.form in
    let run = c.args.run.now in
    let old = g.O.Sink.seen c.args.out.now in
    let new = g.O.Sink.seen c.say_rows.new.out in
    subst (λ (s : ExitStatus). SaysRows (run_rows form run.plan.paths run.verdicts.items) s old new c.say_rows.result)
    (c.status_of.ensures ∙ ap status_of c.deref-2.ensures.value)
    (subst (λ (vs : List Verdict). SaysRows (run_rows form run.plan.paths vs) c.status_of.result old new c.say_rows.result)
    c.deref.ensures.value
    (subst (λ (ps : List PathPlan). SaysRows (run_rows form ps c.deref.result.now) c.status_of.result old new c.say_rows.result)
    c.as_slice.ensures c.say_rows.ensures))
