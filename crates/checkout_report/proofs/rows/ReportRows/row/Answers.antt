use Rattle.std.proofs.Common.{◌≡◌, ◌∙◌, Some, ap, sym, slice_get}
use Rattle.std.proofs.lemmas.Option.{slice_get-get_or, slice_get_past}
use Rattle.std.proofs.lemmas.Result.{IfOk-weaker}
use Rattle.checkout_report.specs.Rows.{report_row, done_row, report_rows}
use Rattle.checkout_report.proofs.RowPlaces.{path_at, done_past_paths, done_past_verdicts}
use Rattle.checkout_report.proofs.rows.ReportRows.row.Goals as goal

pub returns-in-Some-get : goal.returns-in-Some-get
returns-in-Some-get c =
    let ps = c.args.self.now.paths.now in
    let vs = c.args.self.now.verdicts.now in
    let k = c.args.place in
    let p = c.in-Some.path.now in
    let v = c.in-Some-get.verdict.now in
    let path = c.in-Some.ensures.lookup in
    let verdict = c.in-Some-get.ensures.lookup in
    let at = path_at c.args.form ps vs k p v
    (slice_get-get_or ps k p path.3.0 ∙ ap Some (sym path.1))
    (slice_get-get_or vs k v verdict.3.0 ∙ ap Some (sym verdict.1)) in
    IfOk-weaker c.report_row.result (λ x. x.items ≡ report_row c.args.form c.as_slice.result.now p.mark v)
    (λ x. slice_get (report_rows c.args.form ps vs) k ≡ Some x.items)
    (λ x is. at ∙ ap (λ path. Some (report_row c.args.form path p.mark v)) (sym c.as_slice.ensures) ∙ ap Some (sym is))
    c.report_row.ensures

pub returns-in-None-get : goal.returns-in-None-get
returns-in-None-get c =
    let ps = c.args.self.now.paths.now in
    let vs = c.args.self.now.verdicts.now in
    let k = c.args.place in
    let past = slice_get_past vs k c.in-None-get.ensures.lookup.3 in
    IfOk-weaker c.done_row.result (λ x. x.items ≡ done_row c.args.form vs)
    (λ x. slice_get (report_rows c.args.form ps vs) k ≡ Some x.items)
    (λ x is. done_past_verdicts c.args.form ps vs k past c.requires ∙ ap Some (sym is)) c.done_row.ensures

pub returns-in-None : goal.returns-in-None
returns-in-None c =
    let ps = c.args.self.now.paths.now in
    let vs = c.args.self.now.verdicts.now in
    let k = c.args.place in
    let past = slice_get_past ps k c.in-None.ensures.lookup.3 in
    IfOk-weaker c.done_row-in-None.result (λ x. x.items ≡ done_row c.args.form vs)
    (λ x. slice_get (report_rows c.args.form ps vs) k ≡ Some x.items)
    (λ x is. done_past_paths c.args.form ps vs k past c.requires ∙ ap Some (sym is)) c.done_row-in-None.ensures
