use Rattle.std.proofs.Common.{◌≡◌, ◌∙◌, Some, ap, sym, slice_get}
use Rattle.std.proofs.lemmas.Option.{slice_get-get_or, slice_get_past}
use Rattle.std.proofs.lemmas.Result.{IfOk-weaker}
use Rattle.checkin_engine.specs.Rows.{fate_row, done_row, checkin_rows}
use Rattle.checkin_engine.proofs.RowPlaces.{path_at, done_past_paths, done_past_fates}
use Rattle.checkin_engine.proofs.rows.CheckinReportRows.row.Goals as goal

pub returns-in-Some-get : goal.returns-in-Some-get
returns-in-Some-get c =
    let ps = c.args.self.now.paths.now in
    let vs = c.args.self.now.fates.now in
    let k = c.args.place in
    let p = c.in-Some.path.now in
    let v = c.in-Some-get.fate.now in
    let path = c.in-Some.ensures.lookup in
    let fate = c.in-Some-get.ensures.lookup in
    let at = path_at c.args.form ps vs k p v
    (slice_get-get_or ps k p path.3.0 ∙ ap Some (sym path.1))
    (slice_get-get_or vs k v fate.3.0 ∙ ap Some (sym fate.1)) in
    IfOk-weaker c.fate_row.result (λ x. x.items ≡ fate_row c.args.form c.as_slice.result.now v)
    (λ x. slice_get (checkin_rows c.args.form ps vs) k ≡ Some x.items)
    (λ x is. at ∙ ap (λ path. Some (fate_row c.args.form path v)) (sym c.as_slice.ensures) ∙ ap Some (sym is))
    c.fate_row.ensures

pub returns-in-None-get : goal.returns-in-None-get
returns-in-None-get c =
    let ps = c.args.self.now.paths.now in
    let vs = c.args.self.now.fates.now in
    let k = c.args.place in
    let past = slice_get_past vs k c.in-None-get.ensures.lookup.3 in
    IfOk-weaker c.done_row.result (λ x. x.items ≡ done_row c.args.form vs)
    (λ x. slice_get (checkin_rows c.args.form ps vs) k ≡ Some x.items)
    (λ x is. done_past_fates c.args.form ps vs k past c.requires ∙ ap Some (sym is)) c.done_row.ensures

pub returns-in-None : goal.returns-in-None
returns-in-None c =
    let ps = c.args.self.now.paths.now in
    let vs = c.args.self.now.fates.now in
    let k = c.args.place in
    let past = slice_get_past ps k c.in-None.ensures.lookup.3 in
    IfOk-weaker c.done_row-in-None.result (λ x. x.items ≡ done_row c.args.form vs)
    (λ x. slice_get (checkin_rows c.args.form ps vs) k ≡ Some x.items)
    (λ x is. done_past_paths c.args.form ps vs k past c.requires ∙ ap Some (sym is)) c.done_row-in-None.ensures
