use Rattle.std.proofs.Common.{◌≡◌, ◌∙◌, ◌≤◌, List, length, Some, ap, sym, subst, slice_get}
use Rattle.std.proofs.lemmas.Option.{slice_get-get_or, slice_get_past}
use Rattle.std.proofs.lemmas.Result.{IfOk-weaker}
use Rattle.settings_view.specs.declared.view.Driver.{Driver}
use Rattle.checkout_plan.specs.declared.path_plan.PathPlan.{PathPlan}
use Rattle.plan_report.specs.Rows.{plan_row, skipped_row, plan_rows}
use Rattle.plan_report.proofs.RowPlaces.{path_at, skipped_behind}
use Rattle.plan_report.proofs.rows.PlanRowsRows.row.Goals as goal

pub returns-in-Some : goal.returns-in-Some
returns-in-Some c =
    let plan = c.args.self.now.plan.now in
    let k = c.args.place in
    let p = c.in-Some.path.now in
    let path = c.in-Some.ensures.lookup in
    let at = path_at c.args.form plan k p
    (subst (λ (ps : List PathPlan). slice_get ps k ≡ Some p) c.as_slice.ensures
    (slice_get-get_or c.as_slice.result.now k p path.3.0 ∙ ap Some (sym path.1))) in
    IfOk-weaker c.plan_row.result (λ x. x.items ≡ plan_row c.args.form c.as_slice-in-Some.result.now p)
    (λ x. slice_get (plan_rows c.args.form plan) k ≡ Some x.items)
    (λ x is. at ∙ ap (λ (drivers : List Driver). Some (plan_row c.args.form drivers p)) (sym c.as_slice-in-Some.ensures)
    ∙ ap Some (sym is))
    c.plan_row.ensures

pub returns-in-None : goal.returns-in-None
returns-in-None c =
    let plan = c.args.self.now.plan.now in
    let k = c.args.place in
    let past = slice_get_past plan.paths k
    (subst (λ (ps : List PathPlan). length ps ≤ k) c.as_slice.ensures c.in-None.ensures.lookup.3) in
    IfOk-weaker c.skipped_row.result (λ x. x.items ≡ skipped_row c.args.form plan.skipped_lines)
    (λ x. slice_get (plan_rows c.args.form plan) k ≡ Some x.items)
    (λ x is. skipped_behind c.args.form plan k past c.requires ∙ ap Some (sym is)) c.skipped_row.ensures
