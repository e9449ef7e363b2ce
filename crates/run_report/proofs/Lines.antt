-- The first rows of a report's text are its first lines.
use Rattle.std.proofs.Common.{◌≡◌, inl, inr, ℕ, zero, suc, ◌+◌, ◌≤◌, List, [], ◌∷◌, ◌++◌, length, take, map, refl, sym, ap, ◌∙◌, append_assoc, arith, subst, slice_get, Some, get_or}
use Rattle.std.proofs.lemmas.Option.{slice_get-get_or}
use Rattle.edge_kit.specs.Seen.{SinkSeen}
use Rattle.checkout_core.specs.declared.verdict.Verdict.{Verdict}
use Rattle.checkout_plan.specs.declared.path_plan.PathPlan.{PathPlan}
use Rattle.checkout_report.specs.Rows.{ReportsAreRows}
use Rattle.exit_status.specs.Output.{EndsLine, AreLines, IsLineCut, with_text}
use Rattle.reports.specs.declared.form.ReportForm.TheVariants.{Text}
use Rattle.reports.specs.FirstRows.{FirstRows}
use Rattle.reports.specs.Written.{joined, IsRowCut}
use Rattle.run_report.specs.Rows.{shown, report, run_rows}

-- the first rows are lines, where each row is one
are_lines : FirstRows → (rows : List (List ℕ))
    → ((k : ℕ) (row : List ℕ) → slice_get rows k ≡ Some row → EndsLine row)
    → (n : ℕ) → n ≤ length rows → AreLines (joined (take n rows))
are_lines first rows ends zero few = inl refl
are_lines first rows ends (suc k) few =
    let row = get_or rows k [] in
    let is = slice_get-get_or rows k [] (omega (arith, few)) in
    let end = ends k row is in
    let next : suc k ≡ k + 1 = omega arith in
    let plus = ap (λ (m : ℕ). joined (take m rows)) next in
    inr (
      joined (take k rows) ++ end.0,
      plus ∙ first.more rows k row is ∙ ap (λ (x : List ℕ). joined (take k rows) ++ x) end.1
          ∙ sym (append_assoc (joined (take k rows)) end.0 (10 ∷ [])),
    )

pub text : ReportsAreRows → (paths : List PathPlan) (verdicts : List Verdict)
    → joined (run_rows Text paths verdicts) ≡ report paths verdicts
text law paths verdicts = law.text (map shown paths) verdicts

pub lines : ReportsAreRows → FirstRows → (paths : List PathPlan) (verdicts : List Verdict) (old new : SinkSeen)
    → IsRowCut (run_rows Text paths verdicts) old new → IsLineCut (report paths verdicts) old new
lines law first paths verdicts old new cut =
    let rows = run_rows Text paths verdicts in
    let front = joined (take cut.taken rows) in
    let is : front ≡ take (length front) (report paths verdicts) =
    first.part rows cut.taken ∙ ap (take (length front)) (text law paths verdicts) in
    record {
      taken = length front;
      within = subst (λ (t : List ℕ). length front ≤ length t) (text law paths verdicts) (first.within rows cut.taken);
      lines = subst AreLines is (are_lines first rows (law.lines (map shown paths) verdicts) cut.taken cut.within);
      part = cut.part ∙ ap (λ (t : List ℕ). with_text t old) is;
    }
