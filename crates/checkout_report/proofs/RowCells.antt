-- The row of a path by the words of its cells.
use Rattle.std.proofs.Common.{◌≡◌, ℕ, Bool, List, [], ◌∷◌, codes, ap, ◌∙◌}
use Rattle.edge_kit.specs.declared.leaf_state.Mark.{Mark}
use Rattle.checkout_core.specs.declared.verdict.Verdict.{Verdict}
use Rattle.reports.specs.declared.form.ReportForm.{ReportForm}
use Rattle.reports.specs.Fields.{Shown, word, flag, Field, field}
use Rattle.reports.specs.Forms.{path_row}
use Rattle.checkout_report.specs.Report.{word_of}
use Rattle.checkout_report.specs.Rows.{mark_shown, is_unencoded, cause_shown, fields_of, tells_failure, report_row}

abbrev cells : List ℕ → Shown → Bool → Shown → List Field
cells w m u c =
    field (codes "state") (word w) ∷ field (codes "mark") m ∷ field (codes "unencoded") (flag (codes "unencoded") u)
    ∷ field (codes "cause") c ∷ []

cells_are : (mark : Mark) (v : Verdict) (w : List ℕ) (m : Shown) (u : Bool) (c : Shown) → w ≡ word_of v
    → m ≡ mark_shown mark → u ≡ is_unencoded v → c ≡ cause_shown v → cells w m u c ≡ fields_of mark v
cells_are mark v w m u c a b d e =
    ap (λ (x : List ℕ). cells x m u c) a ∙ ap (λ (x : Shown). cells (word_of v) x u c) b
    ∙ ap (λ (x : Bool). cells (word_of v) (mark_shown mark) x c) d
    ∙ ap (λ (x : Shown). cells (word_of v) (mark_shown mark) (is_unencoded v) x) e

pub row_is : (form : ReportForm) (path : List ℕ) (mark : Mark) (v : Verdict) (w : List ℕ) (m : Shown) (u : Bool)
    (c : Shown) (f : Bool) → w ≡ word_of v → m ≡ mark_shown mark → u ≡ is_unencoded v → c ≡ cause_shown v
    → f ≡ tells_failure v → path_row form (cells w m u c) f path ≡ report_row form path mark v
row_is form path mark v w m u c f a b d e g =
    ap (λ (fields : List Field). path_row form fields f path) (cells_are mark v w m u c a b d e)
    ∙ ap (λ (x : Bool). path_row form (fields_of mark v) x path) g
