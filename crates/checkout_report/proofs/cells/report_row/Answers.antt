use Rattle.std.proofs.Common.{◌≡◌, List, ℕ, IfOk, subst}
use Rattle.checkout_report.proofs.RowCells.{row_is}
use Rattle.checkout_report.proofs.cells.report_row.Goals as goal

pub returns : goal.returns
returns c =
    subst (λ (row : List ℕ). IfOk c.spelled.result (λ v. v.items ≡ row))
    (row_is c.args.form c.args.path.now c.args.mark c.args.verdict _ _ _ _ _ c.word_of.ensures c.mark_value.ensures
    c.is_unencoded.ensures c.cause_value.ensures c.tells_failure.ensures) c.spelled.ensures
