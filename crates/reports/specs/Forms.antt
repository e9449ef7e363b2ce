-- The four spellings of a row.
use Rattle.std.specs.Prelude.{ℕ, Bool, List, [], ◌∷◌, ◌++◌, map, if◌then◌else◌}
use Rattle.std.specs.Fmt.{decimal}
use Rattle.byte_path.specs.Characters.{nul, space, line_feed}
use Rattle.byte_path.specs.Quote.{quoted}
use Rattle.reports.specs.declared.form.ReportForm.{ReportForm}
use Rattle.reports.specs.declared.form.ReportForm.TheVariants.{Text, Nul, Json, Failures}
use Rattle.reports.specs.declared.row.Row.{Row}
use Rattle.reports.specs.declared.row.Row.TheVariants as row
use Rattle.reports.specs.Fields.{Field, Number, field_of, number_of}
use Rattle.reports.specs.Lines.{front_of, numbers_of, refusal_front}
use Rattle.reports.specs.Objects.{object_line}
use Rattle.reports.specs.Objects.{path_members, total_members, number_members, refusal_members}

-- The row of a path: its words with a space after each, and the path, quoted, or as it is before a NUL; an object of
-- the path and these fields; or nothing where only failures are told and it has none.
unfoldable pub path_row : ReportForm → List Field → Bool → List ℕ → List ℕ
path_row Text fields has_failed path = front_of fields ++ (quoted path ++ line_feed ∷ [])
path_row Nul fields has_failed path = front_of fields ++ (path ++ nul ∷ [])
path_row Json fields has_failed path = object_line (path_members path fields)
path_row Failures fields has_failed path =
    if has_failed then front_of fields ++ (quoted path ++ line_feed ∷ []) else []

-- a word and its numbers; these are no failure
unfoldable pub total_row : ReportForm → List ℕ → List Number → List ℕ
total_row Text title numbers = title ++ (numbers_of numbers ++ line_feed ∷ [])
total_row Nul title numbers = title ++ (numbers_of numbers ++ nul ∷ [])
total_row Json title numbers = object_line (total_members title numbers)
total_row Failures title numbers = []

unfoldable pub number_row : ReportForm → List ℕ → ℕ → List ℕ
number_row Text title n = title ++ (space ∷ (decimal n ++ line_feed ∷ []))
number_row Nul title n = title ++ (space ∷ (decimal n ++ nul ∷ []))
number_row Json title n = object_line (number_members title n)
number_row Failures title n = []

-- why a repository is refused
unfoldable pub refusal_row : ReportForm → List ℕ → List ℕ
refusal_row Text words = refusal_front ++ (words ++ line_feed ∷ [])
refusal_row Nul words = refusal_front ++ (words ++ nul ∷ [])
refusal_row Json words = object_line (refusal_members words)
refusal_row Failures words = refusal_front ++ (words ++ line_feed ∷ [])

-- a row in a form
abbrev pub spelled : ReportForm → Row → List ℕ
spelled form (row.Path r) = path_row form (map field_of r.cells.now) r.has_failed r.path.now
spelled form (row.Total title counts) = total_row form title.now (map number_of counts.now)
spelled form (row.Number title n) = number_row form title.now n
spelled form (row.Refusal words) = refusal_row form words.now
