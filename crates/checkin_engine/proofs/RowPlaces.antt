-- The rows of a report, by their places, and as a text.
use Rattle.std.proofs.Common.{◌≡◌, ℕ, zero, suc, ◌+◌, ◌<◌, List, [], ◌∷◌, ◌++◌, length, min, Option, Some, None, refl, ap, ◌∙◌, append_assoc, append-nil, arith, slice_get, unwrap_or, codes, count_by}
use Rattle.std.specs.Fmt.{decimal}
use Rattle.std.proofs.lemmas.Grind.{flat_map-append}
use Rattle.hex.specs.Hex.{encode_lower}
use Rattle.byte_path.specs.Characters.{space, line_feed}
use Rattle.byte_path.specs.Quote.{quoted}
use Rattle.reports.specs.Fields.{Number, numbered}
use Rattle.reports.specs.Forms as forms
use Rattle.reports.specs.Lines.{front_of, numbers_of}
use Rattle.reports.specs.declared.form.ReportForm.{ReportForm}
use Rattle.reports.specs.declared.form.ReportForm.TheVariants.{Text}
use Rattle.reports.specs.Written.{joined}
use Rattle.checkin_paths.specs.declared.path.CheckinPath.{CheckinPath}
use Rattle.checkin_paths.specs.declared.fate.Fate.{Fate}
use Rattle.checkin_paths.specs.declared.fate.Fate.TheVariants.{Same, Changed, Gone, Kept, Failed}
use Rattle.checkin_paths.specs.Fates.{cause_word}
use Rattle.checkin_engine.specs.Report.{fate_words, line_of, lines_of, numbers_line, done_line, report_of}
use Rattle.checkin_engine.specs.Report.{is_same, is_changed, is_gone, is_kept_fate, is_failed}
use Rattle.checkin_engine.specs.Rows.{fields_of, fate_row, path_rows, numbers_row, done_row, checkin_rows}

length_with : (form : ReportForm) (ps : List CheckinPath) (fates : List Fate) (last : List ℕ)
    → length (path_rows form ps fates ++ last ∷ []) ≡ min (length ps) (length fates) + 1
length_with form [] fates last = grind arith
length_with form (p ∷ ps) [] last = grind arith
length_with form (p ∷ ps) (fate ∷ fates) last = let rest = length_with form ps fates last in grind (arith, rest)

pub rows_length : (form : ReportForm) (ps : List CheckinPath) (fates : List Fate)
    → length (checkin_rows form ps fates) ≡ min (length ps) (length fates) + 1
rows_length form ps fates = length_with form ps fates (done_row form fates)

at_with : (form : ReportForm) (ps : List CheckinPath) (fates : List Fate) (last : List (List ℕ)) (k : ℕ)
    (p : CheckinPath) (fate : Fate) → slice_get ps k ≡ Some p → slice_get fates k ≡ Some fate
    → slice_get (path_rows form ps fates ++ last) k ≡ Some (fate_row form p.path fate)
at_with form [] fates last k p fate of is = absurd (cc)
at_with form (q ∷ ps) [] last k p fate of is = absurd (cc)
at_with form (q ∷ ps) (f ∷ fates) last zero p fate of is =
    ap (λ (r : CheckinPath). Some (fate_row form r.path f)) (ap (λ (o : Option CheckinPath). unwrap_or o q) of)
    ∙ ap (λ (x : Fate). Some (fate_row form p.path x)) (ap (λ (o : Option Fate). unwrap_or o f) is)
at_with form (q ∷ ps) (f ∷ fates) last (suc k) p fate of is = at_with form ps fates last k p fate of is

-- the row at the place of a path with its fate
pub path_at : (form : ReportForm) (ps : List CheckinPath) (fates : List Fate) (k : ℕ)
    (p : CheckinPath) (fate : Fate) → slice_get ps k ≡ Some p → slice_get fates k ≡ Some fate
    → slice_get (checkin_rows form ps fates) k ≡ Some (fate_row form p.path fate)
path_at form ps fates k p fate of is = at_with form ps fates (done_row form fates ∷ []) k p fate of is

past_paths : (form : ReportForm) (ps : List CheckinPath) (fates : List Fate) (last : List ℕ) (k : ℕ)
    → slice_get ps k ≡ None → k < length (path_rows form ps fates ++ last ∷ [])
    → slice_get (path_rows form ps fates ++ last ∷ []) k ≡ Some last
past_paths form [] fates last zero past within = refl
past_paths form [] fates last (suc k) past within = absurd (omega (arith, within))
past_paths form (p ∷ ps) [] last zero past within = refl
past_paths form (p ∷ ps) [] last (suc k) past within = absurd (omega (arith, within))
past_paths form (p ∷ ps) (f ∷ fates) last zero past within = absurd (cc)
past_paths form (p ∷ ps) (f ∷ fates) last (suc k) past within =
    past_paths form ps fates last k past (omega (arith, within))

past_fates : (form : ReportForm) (ps : List CheckinPath) (fates : List Fate) (last : List ℕ) (k : ℕ)
    → slice_get fates k ≡ None → k < length (path_rows form ps fates ++ last ∷ [])
    → slice_get (path_rows form ps fates ++ last ∷ []) k ≡ Some last
past_fates form [] fates last zero past within = refl
past_fates form [] fates last (suc k) past within = absurd (omega (arith, within))
past_fates form (p ∷ ps) [] last zero past within = refl
past_fates form (p ∷ ps) [] last (suc k) past within = absurd (omega (arith, within))
past_fates form (p ∷ ps) (f ∷ fates) last zero past within = absurd (cc)
past_fates form (p ∷ ps) (f ∷ fates) last (suc k) past within =
    past_fates form ps fates last k past (omega (arith, within))

-- the last row, behind the paths, or behind the fates
pub done_past_paths : (form : ReportForm) (ps : List CheckinPath) (fates : List Fate) (k : ℕ)
    → slice_get ps k ≡ None → k < length (checkin_rows form ps fates)
    → slice_get (checkin_rows form ps fates) k ≡ Some (done_row form fates)
done_past_paths form ps fates k past within = past_paths form ps fates (done_row form fates) k past within

pub done_past_fates : (form : ReportForm) (ps : List CheckinPath) (fates : List Fate) (k : ℕ)
    → slice_get fates k ≡ None → k < length (checkin_rows form ps fates)
    → slice_get (checkin_rows form ps fates) k ≡ Some (done_row form fates)
done_past_fates form ps fates k past within = past_fates form ps fates (done_row form fates) k past within

-- the words of a row before its path
words_are : (fate : Fate) → front_of (fields_of fate) ≡ fate_words fate
words_are Same = refl
words_are (Changed name) =
    ap (λ (x : List ℕ). codes "changed " ++ x) (append-nil (encode_lower name ++ space ∷ []))
words_are Gone = refl
words_are Kept = refl
words_are (Failed cause) = ap (λ (x : List ℕ). codes "failed " ++ x) (append-nil (cause_word cause ++ space ∷ []))

row_line : (p : CheckinPath) (fate : Fate) → fate_row Text p.path fate ≡ line_of p fate
unfolding forms.path_row
row_line p fate = ap (λ (front : List ℕ). front ++ (quoted p.path ++ line_feed ∷ [])) (words_are fate)

path_lines : (ps : List CheckinPath) (fates : List Fate) → joined (path_rows Text ps fates) ≡ lines_of ps fates
path_lines [] fates = refl
path_lines (p ∷ ps) [] = refl
path_lines (p ∷ ps) (fate ∷ fates) =
    ap (λ (line : List ℕ). line ++ joined (path_rows Text ps fates)) (row_line p fate)
    ∙ ap (λ (rest : List ℕ). line_of p fate ++ rest) (path_lines ps fates)

number_on : (n : Number) (ns : List Number) (rest rest' : List ℕ) → numbers_of ns ++ rest ≡ rest'
    → numbers_of (n ∷ ns) ++ rest ≡ space ∷ (decimal n.number ++ rest')
number_on n ns rest rest' then =
    append_assoc (space ∷ decimal n.number) (numbers_of ns) rest
    ∙ ap (λ (x : List ℕ). space ∷ (decimal n.number ++ x)) then

numbers_text : (s c g k f : ℕ) → numbers_row Text s c g k f ≡ numbers_line s c g k f
unfolding forms.total_row
numbers_text s c g k f =
    let failed = numbered (codes "failed") f in
    let kept = numbered (codes "kept") k in
    let gone = numbered (codes "gone") g in
    let changed = numbered (codes "changed") c in
    ap (λ (text : List ℕ). codes "done" ++ text)
    (number_on (numbered (codes "same") s) (changed ∷ gone ∷ kept ∷ failed ∷ []) (line_feed ∷ []) _
    (number_on changed (gone ∷ kept ∷ failed ∷ []) (line_feed ∷ []) _
    (number_on gone (kept ∷ failed ∷ []) (line_feed ∷ []) _
    (number_on kept (failed ∷ []) (line_feed ∷ []) _ (number_on failed [] (line_feed ∷ []) (line_feed ∷ []) refl)))))

numbers_line_is : (fates : List Fate) → done_row Text fates ≡ done_line fates
unfolding done_row done_line
numbers_line_is fates =
    numbers_text (count_by is_same fates) (count_by is_changed fates) (count_by is_gone fates)
    (count_by is_kept_fate fates) (count_by is_failed fates)

-- the rows of the text are the report
pub text_rows : (ps : List CheckinPath) (fates : List Fate) → joined (checkin_rows Text ps fates) ≡ report_of ps fates
text_rows ps fates =
    flat_map-append (λ (row : List ℕ). row) (path_rows Text ps fates) (done_row Text fates ∷ [])
    ∙ ap (λ (front : List ℕ). front ++ (done_row Text fates ++ [])) (path_lines ps fates)
    ∙ ap (λ (last : List ℕ). lines_of ps fates ++ last) (append-nil (done_row Text fates) ∙ numbers_line_is fates)
