-- The report of a checkout as rows.
use Rattle.std.specs.Prelude.{◌≡◌, ℕ, Bool, true, false, List, [], ◌∷◌, ◌++◌, ◌+◌, ◌<◌, codes, count_by, length, min, slice_get, Some, None}
use Rattle.byte_path.specs.Characters.{line_feed}
use Rattle.edge_kit.specs.declared.leaf_state.Mark.{Mark}
use Rattle.edge_kit.specs.declared.leaf_state.Mark.TheVariants as mark
use Rattle.checkout_core.specs.CauseWords.{filter_word, fail_word, skip_word}
use Rattle.checkout_core.specs.declared.verdict.Verdict.{Verdict}
use Rattle.checkout_core.specs.declared.verdict.Verdict.TheVariants as verdict
use Rattle.reports.specs.declared.form.ReportForm.{ReportForm}
use Rattle.reports.specs.declared.form.ReportForm.TheVariants.{Text}
use Rattle.reports.specs.Fields.{Shown, word, absent, flag, Field, field, Number, numbered}
use Rattle.reports.specs.Forms.{path_row, total_row}
use Rattle.reports.specs.Lines.{word_of as said}
use Rattle.reports.specs.Written.{joined}
use Rattle.checkout_report.specs.declared.report.ReportPath.{ReportPath}
use Rattle.checkout_report.specs.Report.{word_of, mark_word, report_of}
use Rattle.checkout_report.specs.Report.{is_written, is_unfiltered, is_failed, is_skipped}

abbrev pub mark_shown : Mark → Shown
mark_shown mark.Plain = absent
mark_shown mark.Executable = word (codes "x")
mark_shown mark.LinkText = word (codes "l")

abbrev pub is_unencoded : Verdict → Bool
is_unencoded (verdict.Written unencoded) = unencoded
is_unencoded (verdict.Unfiltered cause unencoded) = unencoded
is_unencoded v = false

abbrev pub cause_shown : Verdict → Shown
cause_shown (verdict.Unfiltered cause unencoded) = word (filter_word cause)
cause_shown (verdict.Failed cause) = word (fail_word cause)
cause_shown (verdict.Skipped cause) = word (skip_word cause)
cause_shown v = absent

abbrev pub fields_of : Mark → Verdict → List Field
fields_of m v =
    field (codes "state") (word (word_of v)) ∷ field (codes "mark") (mark_shown m)
    ∷ field (codes "unencoded") (flag (codes "unencoded") (is_unencoded v))
    ∷ field (codes "cause") (cause_shown v) ∷ []

-- whether a path has no file because it failed or because memory ran out
abbrev pub tells_failure : Verdict → Bool
tells_failure (verdict.Failed cause) = true
tells_failure verdict.NoMemory = true
tells_failure v = false

-- the row of a path with this mark
abbrev pub report_row : ReportForm → List ℕ → Mark → Verdict → List ℕ
report_row form path m v = path_row form (fields_of m v) (tells_failure v) path

abbrev pub path_rows : ReportForm → List ReportPath → List Verdict → List (List ℕ)
path_rows form [] vs = []
path_rows form (p ∷ ps) [] = []
path_rows form (p ∷ ps) (v ∷ vs) = report_row form p.path p.mark v ∷ path_rows form ps vs

abbrev pub counted : ℕ → ℕ → ℕ → ℕ → List Number
counted written unfiltered failed skipped =
    numbered (codes "written") written ∷ numbered (codes "unfiltered") unfiltered
    ∷ numbered (codes "failed") failed ∷ numbered (codes "skipped") skipped ∷ []

-- the row of these numbers of paths that were written, unfiltered, failed and skipped
abbrev pub numbers_row : ReportForm → ℕ → ℕ → ℕ → ℕ → List ℕ
numbers_row form written unfiltered failed skipped =
    total_row form (codes "done") (counted written unfiltered failed skipped)

unfoldable pub done_row : ReportForm → List Verdict → List ℕ
done_row form vs =
    numbers_row form (count_by is_written vs) (count_by is_unfiltered vs)
    (count_by is_failed vs) (count_by is_skipped vs)

-- a row for each path, and that of the numbers
abbrev pub report_rows : ReportForm → List ReportPath → List Verdict → List (List ℕ)
report_rows form ps vs = path_rows form ps vs ++ done_row form vs ∷ []

-- What rows of a report stand where. Those of the text are the report, and each ends in LF. A mark says its word.
pub record ReportsAreRows : Type 0 where
  pub count : (form : ReportForm) (ps : List ReportPath) (vs : List Verdict)
      → length (report_rows form ps vs) ≡ min (length ps) (length vs) + 1
  pub path_at : (form : ReportForm) (ps : List ReportPath) (vs : List Verdict) (k : ℕ) (p : ReportPath) (v : Verdict)
      → slice_get ps k ≡ Some p → slice_get vs k ≡ Some v
      → slice_get (report_rows form ps vs) k ≡ Some (report_row form p.path p.mark v)
  pub done_past_paths : (form : ReportForm) (ps : List ReportPath) (vs : List Verdict) (k : ℕ) → slice_get ps k ≡ None
      → k < length (report_rows form ps vs) → slice_get (report_rows form ps vs) k ≡ Some (done_row form vs)
  pub done_past_verdicts : (form : ReportForm) (ps : List ReportPath) (vs : List Verdict) (k : ℕ)
      → slice_get vs k ≡ None → k < length (report_rows form ps vs)
      → slice_get (report_rows form ps vs) k ≡ Some (done_row form vs)
  pub text : (ps : List ReportPath) (vs : List Verdict) → joined (report_rows Text ps vs) ≡ report_of ps vs
  pub lines : (ps : List ReportPath) (vs : List Verdict) (k : ℕ) (row : List ℕ)
      → slice_get (report_rows Text ps vs) k ≡ Some row → (front : List ℕ) × (row ≡ front ++ line_feed ∷ [])
  pub marks : (m : Mark) → said (mark_shown m) ≡ mark_word m
