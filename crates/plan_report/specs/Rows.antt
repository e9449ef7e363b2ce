-- The plan as rows.
use Rattle.std.specs.Prelude.{◌≡◌, ℕ, true, false, List, [], ◌∷◌, ◌++◌, codes, map, Option, Some, None}
use Rattle.checkout_core.specs.declared.path.Start.{Start}
use Rattle.checkout_core.specs.declared.path.Start.TheVariants as start
use Rattle.checkout_report.specs.Rows.{mark_shown}
use Rattle.eol_convert.specs.Action.{ends_of}
use Rattle.eol_convert.specs.declared.setting.LineEnds.{LineEnds}
use Rattle.eol_convert.specs.declared.setting.LineEnds.TheVariants.{Keep, ToCrlf, AutoCrlf}
use Rattle.tree_encoding.specs.declared.encoding.Encoding.{Encoding}
use Rattle.tree_encoding.specs.Named.{encoding_name}
use Rattle.settings_view.specs.declared.view.Driver.{Driver}
use Rattle.checkout_plan.specs.declared.path_plan.PathPlan.{PathPlan}
use Rattle.checkout_plan.specs.declared.path_plan.Plan.{Plan}
use Rattle.reports.specs.declared.form.ReportForm.{ReportForm}
use Rattle.reports.specs.declared.form.ReportForm.TheVariants.{Text}
use Rattle.reports.specs.Fields.{Shown, word, absent, flag, name, Field, field}
use Rattle.reports.specs.Forms.{path_row, number_row}
use Rattle.reports.specs.Written.{joined}
use Rattle.plan_report.specs.Lines.{state_word, shown_conversion, driver_name, plan_lines}

abbrev pub ends_shown : LineEnds → Shown
ends_shown Keep = absent
ends_shown ToCrlf = word (codes "crlf")
ends_shown AutoCrlf = word (codes "auto-crlf")

abbrev pub encoding_shown : Option Encoding → Shown
encoding_shown None = absent
encoding_shown (Some encoding) = word (encoding_name encoding)

abbrev pub need_shown : Start → Shown
need_shown (start.Desk driver true) = word (codes "required")
need_shown (start.Desk driver false) = word (codes "optional")
need_shown start.Pool = absent
need_shown (start.Done v) = absent

abbrev pub driver_shown : List Driver → Start → Shown
driver_shown drivers (start.Desk driver required) = name (driver_name drivers driver)
driver_shown drivers start.Pool = absent
driver_shown drivers (start.Done v) = absent

abbrev pub fields_of : List Driver → PathPlan → List Field
fields_of drivers p =
    let c = shown_conversion p.start p.conversion in
    field (codes "state") (word (state_word p.start)) ∷ field (codes "mark") (mark_shown p.mark)
    ∷ field (codes "ends") (ends_shown (ends_of c.action))
    ∷ field (codes "ident") (flag (codes "ident") c.ident)
    ∷ field (codes "encoding") (encoding_shown c.encoding)
    ∷ field (codes "need") (need_shown p.start) ∷ field (codes "driver") (driver_shown drivers p.start) ∷ []

-- the row of a path, which tells of no failure
abbrev pub plan_row : ReportForm → List Driver → PathPlan → List ℕ
plan_row form drivers p = path_row form (fields_of drivers p) false p.path

-- how many attribute lines were skipped
abbrev pub skipped_row : ReportForm → ℕ → List ℕ
skipped_row form skipped = number_row form (codes "skipped-lines") skipped

-- a row for each path, and the last
abbrev pub plan_rows : ReportForm → Plan → List (List ℕ)
plan_rows form plan = map (plan_row form plan.drivers) plan.paths ++ skipped_row form plan.skipped_lines ∷ []

-- the rows of the text are the plan's lines
pub record TextIsPlan : Type 0 where
  pub rows : (plan : Plan) → joined (plan_rows Text plan) ≡ plan_lines plan
