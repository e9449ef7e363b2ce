-- What is said of a plan, and of the end of a checkout.
use Rattle.std.specs.Prelude.{Result, Ok, Err}
use Rattle.edge_kit.specs.Seen.{SinkSeen}
use Rattle.checkout_sources.specs.declared.planned.Planned.{Planned}
use Rattle.checkout_sources.specs.declared.stop.Refusal.{Refusal}
use Rattle.checkout_sources.specs.declared.stop.Stop.{Stop}
use Rattle.checkout_sources.specs.declared.stop.Stop.TheVariants as stop
use Rattle.checkout_sources.specs.RefusalText.{refusal_words, refusal_line}
use Rattle.plan_report.specs.Lines.{plan_lines}
use Rattle.plan_report.specs.Rows.{plan_rows}
use Rattle.reports.specs.declared.form.ReportForm.{ReportForm}
use Rattle.reports.specs.declared.form.ReportForm.TheVariants.{Text}
use Rattle.reports.specs.Forms.{refusal_row}
use Rattle.reports.specs.Written.{joined}
use Rattle.run_report.specs.Rows.{report, run_rows}
use Rattle.checkout_engine.specs.declared.end.Checkout.{Checkout}
use Rattle.checkout_engine.specs.declared.end.Checkout.TheVariants as ends
use Rattle.checkout_engine.specs.declared.end.CheckoutRun.{CheckoutRun}
use Rattle.exit_status.specs.declared.status.ExitStatus.{ExitStatus}
use Rattle.exit_status.specs.declared.status.ExitStatus.TheVariants as status
use Rattle.exit_status.specs.Output.{IsLineCut}
use Rattle.exit_status.specs.Said.{IsSilent, Says, SaysRows, Unsaid}
use Rattle.checkout_engine.specs.Report.{status_of}

-- what is said of a refusal
abbrev pub SaysRefusal : Refusal → SinkSeen → SinkSeen → ExitStatus → Type 0
SaysRefusal r old new s = Says Unsaid (refusal_line r) status.Refused old new s

-- what is said where the reading of a repository stopped
abbrev pub SaysStop : Stop → SinkSeen → SinkSeen → ExitStatus → Type 0
SaysStop (stop.Refused r) old new s = SaysRefusal r old new s
SaysStop stop.ReadFault old new s = IsSilent status.ReadFault old new s
SaysStop stop.NoMemory old new s = IsSilent status.OutOfMemory old new s

-- what is said of a plan that is to be shown: its lines, or why there is none
abbrev pub SaysPlan : Result Planned Stop → SinkSeen → SinkSeen → ExitStatus → Type 0
SaysPlan (Ok planned) old new s = Says Unsaid (plan_lines planned.plan) status.Done old new s
SaysPlan (Err stop) old new s = SaysStop stop old new s

-- what is said of a run: its report
abbrev pub SaysRun : CheckoutRun → SinkSeen → SinkSeen → ExitStatus → Type 0
SaysRun run old new s =
    Says IsLineCut (report run.plan.paths run.verdicts.items) (status_of run.verdicts.items) old new s

-- what is said of the end of a checkout: the report of its run, or why there is none
abbrev pub SaysEnd : Checkout → SinkSeen → SinkSeen → ExitStatus → Type 0
SaysEnd (ends.Done run) old new s = SaysRun run old new s
SaysEnd ends.NotEmpty old new s = IsSilent status.NotEmpty old new s
SaysEnd (ends.Refused r) old new s = SaysRefusal r old new s
SaysEnd ends.ReadFault old new s = IsSilent status.ReadFault old new s
SaysEnd ends.NoMemory old new s = IsSilent status.OutOfMemory old new s

-- what is said of a refusal in a form
abbrev pub SaysRefusalIn : ReportForm → Refusal → SinkSeen → SinkSeen → ExitStatus → Type 0
SaysRefusalIn form r old new s = Says Unsaid (refusal_row form (refusal_words r)) status.Refused old new s

-- what is said in a form where the reading of a repository stopped
abbrev pub SaysStopIn : ReportForm → Stop → SinkSeen → SinkSeen → ExitStatus → Type 0
SaysStopIn form (stop.Refused r) old new s = SaysRefusalIn form r old new s
SaysStopIn form stop.ReadFault old new s = IsSilent status.ReadFault old new s
SaysStopIn form stop.NoMemory old new s = IsSilent status.OutOfMemory old new s

-- what is said in a form of a plan that is to be shown: its rows in one piece, or why there is none
abbrev pub SaysPlanIn : ReportForm → Result Planned Stop → SinkSeen → SinkSeen → ExitStatus → Type 0
SaysPlanIn form (Ok planned) old new s = Says Unsaid (joined (plan_rows form planned.plan)) status.Done old new s
SaysPlanIn form (Err stop) old new s = SaysStopIn form stop old new s

-- what is said of a run in a form: the rows of its report
abbrev pub SaysRunIn : ReportForm → CheckoutRun → SinkSeen → SinkSeen → ExitStatus → Type 0
SaysRunIn form run old new s =
    SaysRows (run_rows form run.plan.paths run.verdicts.items) (status_of run.verdicts.items) old new s

-- what is said in a form of the end of a checkout: the rows of its run, or why there is none
abbrev pub SaysEndIn : ReportForm → Checkout → SinkSeen → SinkSeen → ExitStatus → Type 0
SaysEndIn form (ends.Done run) old new s = SaysRunIn form run old new s
SaysEndIn form ends.NotEmpty old new s = IsSilent status.NotEmpty old new s
SaysEndIn form (ends.Refused r) old new s = SaysRefusalIn form r old new s
SaysEndIn form ends.ReadFault old new s = IsSilent status.ReadFault old new s
SaysEndIn form ends.NoMemory old new s = IsSilent status.OutOfMemory old new s

-- in the form of a text, the plan's lines are said
pub record PlansSayText : Type 0 where
  pub plan : (planned : Result Planned Stop) (old new : SinkSeen) (s : ExitStatus)
      → SaysPlanIn Text planned old new s → SaysPlan planned old new s

-- in the form of a text, the report is said line by line
pub record EndsSayText : Type 0 where
  pub end : (e : Checkout) (old new : SinkSeen) (s : ExitStatus) → SaysEndIn Text e old new s → SaysEnd e old new s
