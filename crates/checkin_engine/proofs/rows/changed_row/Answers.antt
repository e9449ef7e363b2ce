use Rattle.std.proofs.Common.{◌≡◌, ◌∷◌, [], false, IfOk, ℕ, List, ap, subst, codes, ◌∙◌}
use Rattle.reports.specs.Fields.{word, field}
use Rattle.reports.specs.Forms.{path_row}
use Rattle.checkin_engine.specs.Rows.{state_field}
use Rattle.checkin_engine.proofs.rows.changed_row.Goals as goal

pub returns : goal.returns
returns c =
    subst (λ (row : List ℕ). IfOk c.spelled.result (λ v. v.items ≡ row))
    (ap (λ (w : List ℕ). path_row c.args.form (state_field (codes "changed") ∷ field (codes "object") (word w) ∷ []) false c.args.path.now)
    (c.as_str.ensures.value ∙ c.in_ok-digits.ensures)) c.spelled.ensures
