-- The report of a checkout: a line for each path, and the numbers of the verdicts.
use Rattle.std.specs.Prelude.{ℕ, Bool, true, false, List, [], ◌∷◌, ◌++◌, count_by, codes, if◌then◌else◌}
use Rattle.std.specs.Fmt.{decimal}
use Rattle.byte_path.specs.Quote.{quoted}
use Rattle.edge_kit.specs.declared.leaf_state.Mark.{Mark}
use Rattle.edge_kit.specs.declared.leaf_state.Mark.TheVariants as mark
use Rattle.checkout_core.specs.CauseWords.{filter_word, fail_word, skip_word}
use Rattle.checkout_core.specs.declared.verdict.Verdict.{Verdict}
use Rattle.checkout_core.specs.declared.verdict.Verdict.TheVariants as verdict
use Rattle.checkout_report.specs.declared.report.ReportPath.{ReportPath}
use Rattle.byte_path.specs.Characters.{space, line_feed}

-- what happened to the path
abbrev pub word_of : Verdict → List ℕ
word_of (verdict.Written unencoded) = codes "written"
word_of (verdict.Unfiltered cause unencoded) = codes "unfiltered"
word_of (verdict.Failed cause) = codes "failed"
word_of verdict.NoMemory = codes "no-memory"
word_of (verdict.Skipped cause) = codes "skipped"

abbrev pub mark_word : Mark → List ℕ
mark_word mark.Plain = codes "-"
mark_word mark.Executable = codes "x"
mark_word mark.LinkText = codes "l"

abbrev pub encoding_word : Bool → List ℕ
encoding_word unencoded = if unencoded then codes "unencoded" else codes "-"

-- whether the content was left as it is because it isn't UTF-8
abbrev pub note_of : Verdict → List ℕ
note_of (verdict.Written unencoded) = encoding_word unencoded
note_of (verdict.Unfiltered cause unencoded) = encoding_word unencoded
note_of v = codes "-"

abbrev pub cause_of : Verdict → List ℕ
cause_of (verdict.Written unencoded) = codes "-"
cause_of (verdict.Unfiltered cause unencoded) = filter_word cause
cause_of (verdict.Failed cause) = fail_word cause
cause_of verdict.NoMemory = codes "-"
cause_of (verdict.Skipped cause) = skip_word cause

-- the line of a path: word, mark, note, cause and path, with a space between
abbrev pub line_of : ReportPath → Verdict → List ℕ
line_of p v =
    word_of v ++ space ∷ mark_word p.mark ++ space ∷ note_of v ++ space ∷ cause_of v ++ space ∷ quoted p.path
    ++ line_feed ∷ []

abbrev pub lines_of : List ReportPath → List Verdict → List ℕ
lines_of [] vs = []
lines_of (p ∷ ps) [] = []
lines_of (p ∷ ps) (v ∷ vs) = line_of p v ++ lines_of ps vs

abbrev pub is_written : Verdict → Bool
is_written (verdict.Written unencoded) = true
is_written v = false

abbrev pub is_unfiltered : Verdict → Bool
is_unfiltered (verdict.Unfiltered cause unencoded) = true
is_unfiltered v = false

abbrev pub is_failed : Verdict → Bool
is_failed (verdict.Failed cause) = true
is_failed v = false

abbrev pub is_skipped : Verdict → Bool
is_skipped (verdict.Skipped cause) = true
is_skipped v = false

-- the last line, of the numbers of paths that were written, unfiltered, failed and skipped
abbrev pub numbers_line : ℕ → ℕ → ℕ → ℕ → List ℕ
numbers_line written unfiltered failed skipped =
    codes "done " ++ (decimal written ++ space ∷ (decimal unfiltered
    ++ space ∷ (decimal failed ++ space ∷ (decimal skipped ++ line_feed ∷ []))))

unfoldable pub done_line : List Verdict → List ℕ
done_line vs =
    numbers_line (count_by is_written vs) (count_by is_unfiltered vs)
    (count_by is_failed vs) (count_by is_skipped vs)

abbrev pub report_of : List ReportPath → List Verdict → List ℕ
report_of ps vs = lines_of ps vs ++ done_line vs
