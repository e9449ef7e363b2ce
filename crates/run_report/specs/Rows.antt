-- The report of a run.
use Rattle.std.specs.Prelude.{◌≡◌, ℕ, List, map}
use Rattle.edge_kit.specs.Seen.{SinkSeen}
use Rattle.checkout_core.specs.declared.verdict.Verdict.{Verdict}
use Rattle.checkout_plan.specs.declared.path_plan.PathPlan.{PathPlan}
use Rattle.checkout_report.specs.declared.report.ReportPath.{ReportPath}
use Rattle.checkout_report.specs.Report.{report_of}
use Rattle.checkout_report.specs.Rows.{report_rows}
use Rattle.exit_status.specs.Output.{IsLineCut}
use Rattle.reports.specs.declared.form.ReportForm.{ReportForm}
use Rattle.reports.specs.declared.form.ReportForm.TheVariants.{Text}
use Rattle.reports.specs.Written.{joined, IsRowCut}

-- a path as the report shows it
abbrev pub shown : PathPlan → ReportPath
shown p = record { path = p.path; mark = p.mark }

abbrev pub report : List PathPlan → List Verdict → List ℕ
report paths verdicts = report_of (map shown paths) verdicts

abbrev pub run_rows : ReportForm → List PathPlan → List Verdict → List (List ℕ)
run_rows form paths verdicts = report_rows form (map shown paths) verdicts

-- The rows of the text are the report. What is written of them as memory runs out are its first lines.
pub record FirstRowsAreLines : Type 0 where
  pub text : (paths : List PathPlan) (verdicts : List Verdict)
      → joined (run_rows Text paths verdicts) ≡ report paths verdicts
  pub lines : (paths : List PathPlan) (verdicts : List Verdict) (old new : SinkSeen)
      → IsRowCut (run_rows Text paths verdicts) old new → IsLineCut (report paths verdicts) old new
