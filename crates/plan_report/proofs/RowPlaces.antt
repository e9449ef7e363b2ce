-- The rows of a plan, by their places, and as a text.
use Rattle.std.proofs.Common.{◌≡◌, ℕ, zero, suc, ◌<◌, List, [], ◌∷◌, ◌++◌, length, map, Option, Some, None, refl, sym, ap, ◌∙◌, append-nil, append_assoc, arith, slice_get, option_map, codes, Bool, true, false}
use Rattle.std.specs.List.{flat_map}
use Rattle.std.proofs.lemmas.Grind.{flat_map-append}
use Rattle.checkout_core.specs.declared.path.Start.{Start}
use Rattle.checkout_core.specs.declared.path.Start.TheVariants as start
use Rattle.checkout_report.specs.Report.{mark_word}
use Rattle.checkout_report.specs.Rows.{mark_shown, ReportsAreRows}
use Rattle.eol_convert.specs.Action.{ends_of}
use Rattle.eol_convert.specs.declared.setting.LineEnds.{LineEnds}
use Rattle.eol_convert.specs.declared.setting.LineEnds.TheVariants.{Keep, ToCrlf, AutoCrlf}
use Rattle.tree_encoding.specs.declared.encoding.Encoding.{Encoding}
use Rattle.byte_path.specs.Characters.{space, line_feed}
use Rattle.byte_path.specs.Quote.{quoted}
use Rattle.reports.specs.Fields.{word, flag, field}
use Rattle.reports.specs.Forms as forms
use Rattle.reports.specs.Fronts.{FrontsGrow}
use Rattle.reports.specs.Lines.{word_of as said, front_of}
use Rattle.settings_view.specs.declared.view.Driver.{Driver}
use Rattle.checkout_plan.specs.declared.path_plan.PathPlan.{PathPlan}
use Rattle.checkout_plan.specs.declared.path_plan.Plan.{Plan}
use Rattle.reports.specs.declared.form.ReportForm.{ReportForm}
use Rattle.reports.specs.declared.form.ReportForm.TheVariants.{Text}
use Rattle.reports.specs.Written.{joined}
use Rattle.plan_report.specs.Lines.{state_word, ends_word, ident_word, encoding_word, need_word, driver_word, conversion_words, shown_conversion, line_of, last_line, plan_lines}
use Rattle.plan_report.specs.Rows.{ends_shown, encoding_shown, need_shown, driver_shown, fields_of, plan_row, skipped_row, plan_rows}

at_with : (form : ReportForm) (drivers : List Driver) (ps : List PathPlan) (last : List (List ℕ)) (k : ℕ) (p : PathPlan)
    → slice_get ps k ≡ Some p → slice_get (map (plan_row form drivers) ps ++ last) k ≡ Some (plan_row form drivers p)
at_with form drivers [] last k p is = absurd (cc)
at_with form drivers (q ∷ ps) last zero p is = ap (λ (o : Option PathPlan). option_map (plan_row form drivers) o) is
at_with form drivers (q ∷ ps) last (suc k) p is = at_with form drivers ps last k p is

-- the row at the place of a path
pub path_at : (form : ReportForm) (plan : Plan) (k : ℕ) (p : PathPlan) → slice_get plan.paths k ≡ Some p
    → slice_get (plan_rows form plan) k ≡ Some (plan_row form plan.drivers p)
path_at form plan k p is = at_with form plan.drivers plan.paths (skipped_row form plan.skipped_lines ∷ []) k p is

behind : (form : ReportForm) (drivers : List Driver) (ps : List PathPlan) (last : List ℕ) (k : ℕ)
    → slice_get ps k ≡ None → k < length (map (plan_row form drivers) ps ++ last ∷ [])
    → slice_get (map (plan_row form drivers) ps ++ last ∷ []) k ≡ Some last
behind form drivers [] last zero past within = refl
behind form drivers [] last (suc k) past within = absurd (omega (arith, within))
behind form drivers (p ∷ ps) last zero past within = absurd (cc)
behind form drivers (p ∷ ps) last (suc k) past within = behind form drivers ps last k past (omega (arith, within))

-- the last row, behind the paths
pub skipped_behind : (form : ReportForm) (plan : Plan) (k : ℕ) → slice_get plan.paths k ≡ None
    → k < length (plan_rows form plan) → slice_get (plan_rows form plan) k ≡ Some (skipped_row form plan.skipped_lines)
skipped_behind form plan k past within = behind form plan.drivers plan.paths (skipped_row form plan.skipped_lines) k past within

ends_say : (ends : LineEnds) → said (ends_shown ends) ≡ ends_word ends
ends_say Keep = refl
ends_say ToCrlf = refl
ends_say AutoCrlf = refl

ident_says : (ident : Bool) → said (flag (codes "ident") ident) ≡ ident_word ident
ident_says true = refl
ident_says false = refl

encoding_says : (encoding : Option Encoding) → said (encoding_shown encoding) ≡ encoding_word encoding
encoding_says None = refl
encoding_says (Some encoding) = refl

need_says : (s : Start) → said (need_shown s) ≡ need_word s
need_says (start.Desk driver true) = refl
need_says (start.Desk driver false) = refl
need_says start.Pool = refl
need_says (start.Done v) = refl

driver_says : (drivers : List Driver) (s : Start) → said (driver_shown drivers s) ≡ driver_word drivers s
driver_says drivers (start.Desk driver required) = refl
driver_says drivers start.Pool = refl
driver_says drivers (start.Done v) = refl

-- the words of a line before what follows them
words_before : FrontsGrow → ReportsAreRows → (drivers : List Driver) (p : PathPlan) (rest : List ℕ) → front_of (fields_of drivers p) ++ rest
    ≡ (let c = shown_conversion p.start p.conversion in state_word p.start ++ space ∷ (mark_word p.mark ++ space ∷ (ends_word (ends_of c.action) ++ space ∷
    (ident_word c.ident ++ space ∷ (encoding_word c.encoding ++ space ∷ (need_word p.start ++ space ∷
    (driver_word drivers p.start ++ space ∷ rest)))))))
words_before front_on reports drivers p rest =
    let c = shown_conversion p.start p.conversion in
    let driver = field (codes "driver") (driver_shown drivers p.start) in
    let need = field (codes "need") (need_shown p.start) in
    let encoding = field (codes "encoding") (encoding_shown c.encoding) in
    let ident = field (codes "ident") (flag (codes "ident") c.ident) in
    let ends = field (codes "ends") (ends_shown (ends_of c.action)) in
    let mark = field (codes "mark") (mark_shown p.mark) in
    front_on (field (codes "state") (word (state_word p.start))) (mark ∷ ends ∷ ident ∷ encoding ∷ need ∷ driver ∷ [])
    (state_word p.start) rest _ refl
    (front_on mark (ends ∷ ident ∷ encoding ∷ need ∷ driver ∷ []) (mark_word p.mark) rest _ (reports.marks p.mark)
    (front_on ends (ident ∷ encoding ∷ need ∷ driver ∷ []) (ends_word (ends_of c.action)) rest _ (ends_say (ends_of c.action))
    (front_on ident (encoding ∷ need ∷ driver ∷ []) (ident_word c.ident) rest _ (ident_says c.ident)
    (front_on encoding (need ∷ driver ∷ []) (encoding_word c.encoding) rest _ (encoding_says c.encoding)
    (front_on need (driver ∷ []) (need_word p.start) rest _ (need_says p.start)
    (front_on driver [] (driver_word drivers p.start) rest rest (driver_says drivers p.start) refl))))))

-- the columns of the conversion, with a space after them, before the rest of a line
conversion_right : (a b c rest : List ℕ) → (a ++ space ∷ b ++ space ∷ c) ++ space ∷ rest
    ≡ a ++ space ∷ (b ++ space ∷ (c ++ space ∷ rest))
conversion_right a b c rest =
    append_assoc (a ++ space ∷ b) (space ∷ c) (space ∷ rest) ∙ append_assoc a (space ∷ b) (space ∷ (c ++ space ∷ rest))

-- the columns before the driver, before the rest of a line
columns_right : (s m c n rest : List ℕ)
    → (s ++ (space ∷ (m ++ (space ∷ (c ++ (space ∷ (n ++ space ∷ []))))))) ++ rest
    ≡ s ++ space ∷ (m ++ space ∷ (c ++ space ∷ (n ++ space ∷ rest)))
columns_right s m c n rest =
    append_assoc s (space ∷ (m ++ (space ∷ (c ++ (space ∷ (n ++ space ∷ [])))))) rest
    ∙ ap (λ (x : List ℕ). s ++ space ∷ x)
    (append_assoc m (space ∷ (c ++ (space ∷ (n ++ space ∷ [])))) rest
    ∙ ap (λ (x : List ℕ). m ++ space ∷ x)
    (append_assoc c (space ∷ (n ++ space ∷ [])) rest
    ∙ ap (λ (x : List ℕ). c ++ space ∷ x) (append_assoc n (space ∷ []) rest)))

row_line : FrontsGrow → ReportsAreRows → (drivers : List Driver) (p : PathPlan) → plan_row Text drivers p ≡ line_of drivers p
unfolding forms.path_row
row_line law reports drivers p =
    let c = shown_conversion p.start p.conversion in
    let end = driver_word drivers p.start ++ space ∷ (quoted p.path ++ line_feed ∷ []) in
    words_before law reports drivers p (quoted p.path ++ line_feed ∷ [])
    ∙ sym (columns_right (state_word p.start) (mark_word p.mark) (conversion_words c) (need_word p.start) end
    ∙ ap (λ (x : List ℕ). state_word p.start ++ space ∷ (mark_word p.mark ++ space ∷ x))
    (conversion_right (ends_word (ends_of c.action)) (ident_word c.ident) (encoding_word c.encoding)
    (need_word p.start ++ space ∷ end)))

path_lines : FrontsGrow → ReportsAreRows → (drivers : List Driver) (ps : List PathPlan) → joined (map (plan_row Text drivers) ps) ≡ flat_map (line_of drivers) ps
path_lines law reports drivers [] = refl
path_lines law reports drivers (p ∷ ps) =
    ap (λ (line : List ℕ). line ++ joined (map (plan_row Text drivers) ps)) (row_line law reports drivers p)
    ∙ ap (λ (rest : List ℕ). line_of drivers p ++ rest) (path_lines law reports drivers ps)

last_is : (skipped : ℕ) → skipped_row Text skipped ≡ last_line skipped
unfolding forms.number_row
last_is skipped = refl

-- the rows of the text are the plan's lines
pub text_rows : FrontsGrow → ReportsAreRows → (plan : Plan) → joined (plan_rows Text plan) ≡ plan_lines plan
text_rows law reports plan =
    flat_map-append (λ (row : List ℕ). row) (map (plan_row Text plan.drivers) plan.paths) (skipped_row Text plan.skipped_lines ∷ [])
    ∙ ap (λ (front : List ℕ). front ++ (skipped_row Text plan.skipped_lines ++ [])) (path_lines law reports plan.drivers plan.paths)
    ∙ ap (λ (last : List ℕ). flat_map (line_of plan.drivers) plan.paths ++ last)
    (append-nil (skipped_row Text plan.skipped_lines) ∙ last_is plan.skipped_lines)
