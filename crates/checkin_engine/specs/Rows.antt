-- The report of a check-in as rows.
use Rattle.std.specs.Prelude.{◌≡◌, ℕ, ◌+◌, List, [], ◌∷◌, ◌++◌, codes, count_by, length, min}
use Rattle.hex.specs.Hex.{encode_lower}
use Rattle.checkin_paths.specs.declared.path.CheckinPath.{CheckinPath}
use Rattle.checkin_paths.specs.declared.fate.Fate.{Fate}
use Rattle.checkin_paths.specs.declared.fate.Fate.TheVariants.{Same, Changed, Gone, Kept, Failed}
use Rattle.checkin_paths.specs.Fates.{cause_word}
use Rattle.reports.specs.declared.form.ReportForm.{ReportForm}
use Rattle.reports.specs.declared.form.ReportForm.TheVariants.{Text}
use Rattle.reports.specs.Fields.{word, Field, field, Number, numbered}
use Rattle.reports.specs.Forms.{path_row, total_row}
use Rattle.reports.specs.Written.{joined}
use Rattle.checkin_engine.specs.Report.{is_same, is_changed, is_gone, is_kept_fate, is_failed, report_of}

-- what became of a path, in a word
abbrev pub state_field : List ℕ → Field
state_field w = field (codes "state") (word w)

-- the fields of a path's row: its new object stands behind a change, and the cause behind a failure
abbrev pub fields_of : Fate → List Field
fields_of Same = state_field (codes "same") ∷ []
fields_of (Changed name) = state_field (codes "changed") ∷ field (codes "object") (word (encode_lower name)) ∷ []
fields_of Gone = state_field (codes "gone") ∷ []
fields_of Kept = state_field (codes "kept") ∷ []
fields_of (Failed cause) = state_field (codes "failed") ∷ field (codes "cause") (word (cause_word cause)) ∷ []

-- the row of a path that came to this fate
abbrev pub fate_row : ReportForm → List ℕ → Fate → List ℕ
fate_row form path fate = path_row form (fields_of fate) (is_failed fate) path

abbrev pub path_rows : ReportForm → List CheckinPath → List Fate → List (List ℕ)
path_rows form [] fates = []
path_rows form (p ∷ ps) [] = []
path_rows form (p ∷ ps) (fate ∷ fates) = fate_row form p.path fate ∷ path_rows form ps fates

abbrev pub counted : ℕ → ℕ → ℕ → ℕ → ℕ → List Number
counted same changed gone kept failed =
    numbered (codes "same") same ∷ numbered (codes "changed") changed ∷ numbered (codes "gone") gone
    ∷ numbered (codes "kept") kept ∷ numbered (codes "failed") failed ∷ []

-- the row of these numbers of paths that are the same, changed, gone, kept and failed
abbrev pub numbers_row : ReportForm → ℕ → ℕ → ℕ → ℕ → ℕ → List ℕ
numbers_row form same changed gone kept failed = total_row form (codes "done") (counted same changed gone kept failed)

unfoldable pub done_row : ReportForm → List Fate → List ℕ
done_row form fates =
    numbers_row form (count_by is_same fates) (count_by is_changed fates) (count_by is_gone fates)
    (count_by is_kept_fate fates) (count_by is_failed fates)

-- a row for each path, and that of the numbers
abbrev pub checkin_rows : ReportForm → List CheckinPath → List Fate → List (List ℕ)
checkin_rows form ps fates = path_rows form ps fates ++ done_row form fates ∷ []

-- How many rows a report has, and that those of the text, one behind the other, are the report.
pub record CheckinsAreRows : Type 0 where
  pub count : (form : ReportForm) (ps : List CheckinPath) (fates : List Fate)
      → length (checkin_rows form ps fates) ≡ min (length ps) (length fates) + 1
  pub text : (ps : List CheckinPath) (fates : List Fate) → joined (checkin_rows Text ps fates) ≡ report_of ps fates
