-- The rows of a report, by their places, and as a text.
use Rattle.std.proofs.Common.{◌≡◌, ℕ, zero, suc, ◌+◌, ◌<◌, List, [], ◌∷◌, ◌++◌, length, min, Option, Some, None, Result, Ok, Err, IfOk, refl, sym, ap, ◌∙◌, append_assoc, append-nil, arith, slice_get, unwrap_or, codes, count_by}
use Rattle.std.specs.Fmt.{decimal}
use Rattle.std.specs.Global.{Vec}
use Rattle.std.proofs.lemmas.Grind.{flat_map-append}
use Rattle.checkout_core.specs.declared.verdict.Verdict.{Verdict}
use Rattle.checkout_core.specs.declared.verdict.Verdict.TheVariants as verdict
use Rattle.edge_kit.specs.declared.leaf_state.Mark.{Mark}
use Rattle.edge_kit.specs.declared.leaf_state.Mark.TheVariants as mark
use Rattle.byte_path.specs.Characters.{space, line_feed}
use Rattle.byte_path.specs.Quote.{quoted}
use Rattle.reports.specs.Fields.{word, flag, field, Number, numbered}
use Rattle.reports.specs.Forms as forms
use Rattle.reports.specs.Fronts.{FrontsGrow}
use Rattle.reports.specs.Lines.{word_of as said, front_of, numbers_of}
use Rattle.reports.specs.declared.form.ReportForm.{ReportForm}
use Rattle.reports.specs.declared.form.ReportForm.TheVariants.{Text}
use Rattle.reports.specs.Written.{joined}
use Rattle.checkout_report.specs.declared.report.ReportPath.{ReportPath}
use Rattle.checkout_report.specs.Report.{word_of, mark_word, note_of, cause_of, line_of, lines_of, numbers_line, done_line, report_of}
use Rattle.checkout_report.specs.Report.{is_written, is_unfiltered, is_failed, is_skipped}
use Rattle.checkout_report.specs.Rows.{mark_shown, is_unencoded, cause_shown, fields_of, report_row, path_rows, counted, numbers_row, done_row, report_rows, ReportsAreRows}

length_with : (form : ReportForm) (ps : List ReportPath) (vs : List Verdict) (last : List ℕ)
    → length (path_rows form ps vs ++ last ∷ []) ≡ min (length ps) (length vs) + 1
length_with form [] vs last = grind arith
length_with form (p ∷ ps) [] last = grind arith
length_with form (p ∷ ps) (v ∷ vs) last = let rest = length_with form ps vs last in grind (arith, rest)

pub rows_length : (form : ReportForm) (ps : List ReportPath) (vs : List Verdict)
    → length (report_rows form ps vs) ≡ min (length ps) (length vs) + 1
rows_length form ps vs = length_with form ps vs (done_row form vs)

at_with : (form : ReportForm) (ps : List ReportPath) (vs : List Verdict) (last : List (List ℕ)) (k : ℕ)
    (p : ReportPath) (v : Verdict) → slice_get ps k ≡ Some p → slice_get vs k ≡ Some v
    → slice_get (path_rows form ps vs ++ last) k ≡ Some (report_row form p.path p.mark v)
at_with form [] vs last k p v of is = absurd (cc)
at_with form (q ∷ ps) [] last k p v of is = absurd (cc)
at_with form (q ∷ ps) (w ∷ vs) last zero p v of is =
    ap (λ (r : ReportPath). Some (report_row form r.path r.mark w)) (ap (λ (o : Option ReportPath). unwrap_or o q) of)
    ∙ ap (λ (x : Verdict). Some (report_row form p.path p.mark x)) (ap (λ (o : Option Verdict). unwrap_or o w) is)
at_with form (q ∷ ps) (w ∷ vs) last (suc k) p v of is = at_with form ps vs last k p v of is

-- the row at the place of a path with its verdict
pub path_at : (form : ReportForm) (ps : List ReportPath) (vs : List Verdict) (k : ℕ)
    (p : ReportPath) (v : Verdict) → slice_get ps k ≡ Some p → slice_get vs k ≡ Some v
    → slice_get (report_rows form ps vs) k ≡ Some (report_row form p.path p.mark v)
path_at form ps vs k p v of is = at_with form ps vs (done_row form vs ∷ []) k p v of is

past_paths : (form : ReportForm) (ps : List ReportPath) (vs : List Verdict) (last : List ℕ) (k : ℕ)
    → slice_get ps k ≡ None → k < length (path_rows form ps vs ++ last ∷ [])
    → slice_get (path_rows form ps vs ++ last ∷ []) k ≡ Some last
past_paths form [] vs last zero past within = refl
past_paths form [] vs last (suc k) past within = absurd (omega (arith, within))
past_paths form (p ∷ ps) [] last zero past within = refl
past_paths form (p ∷ ps) [] last (suc k) past within = absurd (omega (arith, within))
past_paths form (p ∷ ps) (v ∷ vs) last zero past within = absurd (cc)
past_paths form (p ∷ ps) (v ∷ vs) last (suc k) past within = past_paths form ps vs last k past (omega (arith, within))

past_verdicts : (form : ReportForm) (ps : List ReportPath) (vs : List Verdict) (last : List ℕ) (k : ℕ)
    → slice_get vs k ≡ None → k < length (path_rows form ps vs ++ last ∷ [])
    → slice_get (path_rows form ps vs ++ last ∷ []) k ≡ Some last
past_verdicts form [] vs last zero past within = refl
past_verdicts form [] vs last (suc k) past within = absurd (omega (arith, within))
past_verdicts form (p ∷ ps) [] last zero past within = refl
past_verdicts form (p ∷ ps) [] last (suc k) past within = absurd (omega (arith, within))
past_verdicts form (p ∷ ps) (v ∷ vs) last zero past within = absurd (cc)
past_verdicts form (p ∷ ps) (v ∷ vs) last (suc k) past within = past_verdicts form ps vs last k past (omega (arith, within))

-- the last row, behind the paths, or behind the verdicts
pub done_past_paths : (form : ReportForm) (ps : List ReportPath) (vs : List Verdict) (k : ℕ)
    → slice_get ps k ≡ None → k < length (report_rows form ps vs)
    → slice_get (report_rows form ps vs) k ≡ Some (done_row form vs)
done_past_paths form ps vs k past within = past_paths form ps vs (done_row form vs) k past within

pub done_past_verdicts : (form : ReportForm) (ps : List ReportPath) (vs : List Verdict) (k : ℕ)
    → slice_get vs k ≡ None → k < length (report_rows form ps vs)
    → slice_get (report_rows form ps vs) k ≡ Some (done_row form vs)
done_past_verdicts form ps vs k past within = past_verdicts form ps vs (done_row form vs) k past within

cause_says : (v : Verdict) → said (cause_shown v) ≡ cause_of v
cause_says (verdict.Written unencoded) = refl
cause_says (verdict.Unfiltered cause unencoded) = refl
cause_says (verdict.Failed cause) = refl
cause_says verdict.NoMemory = refl
cause_says (verdict.Skipped cause) = refl

note_says : (v : Verdict) → said (flag (codes "unencoded") (is_unencoded v)) ≡ note_of v
note_says (verdict.Written unencoded) = refl
note_says (verdict.Unfiltered cause unencoded) = refl
note_says (verdict.Failed cause) = refl
note_says verdict.NoMemory = refl
note_says (verdict.Skipped cause) = refl

pub mark_says : (m : Mark) → said (mark_shown m) ≡ mark_word m
mark_says mark.Plain = refl
mark_says mark.Executable = refl
mark_says mark.LinkText = refl

-- the words of a line before what follows them
words_before : FrontsGrow → (m : Mark) (v : Verdict) (rest : List ℕ) → front_of (fields_of m v) ++ rest
    ≡ word_of v ++ space ∷ (mark_word m ++ space ∷ (note_of v ++ space ∷ (cause_of v ++ space ∷ rest)))
words_before front_on m v rest =
    let cause = field (codes "cause") (cause_shown v) in
    let note = field (codes "unencoded") (flag (codes "unencoded") (is_unencoded v)) in
    let mark = field (codes "mark") (mark_shown m) in
    front_on (field (codes "state") (word (word_of v))) (mark ∷ note ∷ cause ∷ []) (word_of v) rest _ refl
    (front_on mark (note ∷ cause ∷ []) (mark_word m) rest _ (mark_says m)
    (front_on note (cause ∷ []) (note_of v) rest _ (note_says v) (front_on cause [] (cause_of v) rest rest (cause_says v) refl)))

to_the_right : (a b c d e end : List ℕ) → a ++ space ∷ b ++ space ∷ c ++ space ∷ d ++ space ∷ e ++ end
    ≡ a ++ space ∷ (b ++ space ∷ (c ++ space ∷ (d ++ space ∷ (e ++ end))))
to_the_right a b c d e end =
    append_assoc (a ++ space ∷ b ++ space ∷ c ++ space ∷ d) (space ∷ e) end
    ∙ append_assoc (a ++ space ∷ b ++ space ∷ c) (space ∷ d) (space ∷ (e ++ end))
    ∙ append_assoc (a ++ space ∷ b) (space ∷ c) (space ∷ (d ++ space ∷ (e ++ end)))
    ∙ append_assoc a (space ∷ b) (space ∷ (c ++ space ∷ (d ++ space ∷ (e ++ end))))

row_line : FrontsGrow → (p : ReportPath) (v : Verdict) → report_row Text p.path p.mark v ≡ line_of p v
unfolding forms.path_row
row_line law p v =
    words_before law p.mark v (quoted p.path ++ line_feed ∷ [])
    ∙ sym (to_the_right (word_of v) (mark_word p.mark) (note_of v) (cause_of v) (quoted p.path) (line_feed ∷ []))

path_lines : FrontsGrow → (ps : List ReportPath) (vs : List Verdict) → joined (path_rows Text ps vs) ≡ lines_of ps vs
path_lines law [] vs = refl
path_lines law (p ∷ ps) [] = refl
path_lines law (p ∷ ps) (v ∷ vs) =
    ap (λ (line : List ℕ). line ++ joined (path_rows Text ps vs)) (row_line law p v)
    ∙ ap (λ (rest : List ℕ). line_of p v ++ rest) (path_lines law ps vs)

number_on : (n : Number) (ns : List Number) (rest rest' : List ℕ) → numbers_of ns ++ rest ≡ rest'
    → numbers_of (n ∷ ns) ++ rest ≡ space ∷ (decimal n.number ++ rest')
number_on n ns rest rest' then =
    append_assoc (space ∷ decimal n.number) (numbers_of ns) rest
    ∙ ap (λ (x : List ℕ). space ∷ (decimal n.number ++ x)) then

numbers_text : (w u f s : ℕ) → numbers_row Text w u f s ≡ numbers_line w u f s
unfolding forms.total_row
numbers_text w u f s =
    let skipped = numbered (codes "skipped") s in
    let failed = numbered (codes "failed") f in
    let unfiltered = numbered (codes "unfiltered") u in
    ap (λ (text : List ℕ). codes "done" ++ text)
    (number_on (numbered (codes "written") w) (unfiltered ∷ failed ∷ skipped ∷ []) (line_feed ∷ []) _
    (number_on unfiltered (failed ∷ skipped ∷ []) (line_feed ∷ []) _
    (number_on failed (skipped ∷ []) (line_feed ∷ []) _ (number_on skipped [] (line_feed ∷ []) (line_feed ∷ []) refl))))

numbers_line_is : (vs : List Verdict) → done_row Text vs ≡ done_line vs
unfolding done_row done_line
numbers_line_is vs =
    numbers_text (count_by is_written vs) (count_by is_unfiltered vs) (count_by is_failed vs) (count_by is_skipped vs)

-- the rows of the text are the report
pub text_rows : FrontsGrow → (ps : List ReportPath) (vs : List Verdict) → joined (report_rows Text ps vs) ≡ report_of ps vs
text_rows law ps vs =
    flat_map-append (λ (row : List ℕ). row) (path_rows Text ps vs) (done_row Text vs ∷ [])
    ∙ ap (λ (front : List ℕ). front ++ (done_row Text vs ++ [])) (path_lines law ps vs)
    ∙ ap (λ (last : List ℕ). lines_of ps vs ++ last) (append-nil (done_row Text vs) ∙ numbers_line_is vs)

pub text_of : {E : Type 0} → ReportsAreRows → (ps : List ReportPath) (vs : List Verdict) (r : Result (Vec ℕ) E)
    → IfOk r (λ v. v.items ≡ joined (report_rows Text ps vs)) → IfOk r (λ v. v.items ≡ report_of ps vs)
text_of law ps vs (Ok v) is = is ∙ law.text ps vs
text_of law ps vs (Err e) is = is

-- a row of the text ends in LF
ends_line : (p : ReportPath) (v : Verdict) → (front : List ℕ) × (report_row Text p.path p.mark v ≡ front ++ line_feed ∷ [])
unfolding forms.path_row
ends_line p v = (
  front_of (fields_of p.mark v) ++ quoted p.path,
  sym (append_assoc (front_of (fields_of p.mark v)) (quoted p.path) (line_feed ∷ [])),
)

done_ends_line : (vs : List Verdict) → (front : List ℕ) × (done_row Text vs ≡ front ++ line_feed ∷ [])
unfolding forms.total_row done_row
done_ends_line vs =
    let numbers = numbers_of (counted (count_by is_written vs) (count_by is_unfiltered vs) (count_by is_failed vs) (count_by is_skipped vs)) in
    (codes "done" ++ numbers, sym (append_assoc (codes "done") numbers (line_feed ∷ [])))

lines_with : (ps : List ReportPath) (vs : List Verdict) (last : List ℕ) → (front : List ℕ) × (last ≡ front ++ line_feed ∷ [])
    → (k : ℕ) (row : List ℕ) → slice_get (path_rows Text ps vs ++ last ∷ []) k ≡ Some row
    → (front : List ℕ) × (row ≡ front ++ line_feed ∷ [])
lines_with [] vs last end zero row is = (end.0, sym (ap (λ (o : Option (List ℕ)). unwrap_or o last) is) ∙ end.1)
lines_with [] vs last end (suc k) row is = absurd (cc)
lines_with (p ∷ ps) [] last end zero row is = (end.0, sym (ap (λ (o : Option (List ℕ)). unwrap_or o last) is) ∙ end.1)
lines_with (p ∷ ps) [] last end (suc k) row is = absurd (cc)
lines_with (p ∷ ps) (v ∷ vs) last end zero row is =
    let line = ends_line p v in
    (line.0, sym (ap (λ (o : Option (List ℕ)). unwrap_or o (report_row Text p.path p.mark v)) is) ∙ line.1)
lines_with (p ∷ ps) (v ∷ vs) last end (suc k) row is = lines_with ps vs last end k row is

pub rows_end_lines : (ps : List ReportPath) (vs : List Verdict) (k : ℕ) (row : List ℕ)
    → slice_get (report_rows Text ps vs) k ≡ Some row → (front : List ℕ) × (row ≡ front ++ line_feed ∷ [])
rows_end_lines ps vs k row is = lines_with ps vs (done_row Text vs) (done_ends_line vs) k row is
