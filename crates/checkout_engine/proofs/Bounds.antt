-- What is known of the workers and of the paths once a plan was read.
use Rattle.std.proofs.Common.{◌≡◌, ◌==◌, ◌||◌, ◌&&◌, ℕ, zero, suc, ◌<◌, ◌≤◌, ◌^◌, ◌-◌, Bool, true, false, min, if◌then◌else◌, List, [], ◌∷◌, length, map, take, drop, Option, Some, None, Result, Ok, Err, refl, sym, ap, ◌∙◌, subst, ne_eqb, arith}
use Rattle.std.specs.Prelude.{nat_le, nat_lt, codes}
use Rattle.std.specs.Option.{ok_or, option_map, unwrap_or}
use Rattle.std.specs.List.{AllByRecursion}
use Rattle.std.specs.Str.{IsUtf8, is_utf8, bytes_eq}
use Rattle.std.specs.Str.Parse.{digits_value}
use Rattle.std.proofs.Math.Nat.{min-le_right, le-min}
use Rattle.std.proofs.lemmas.Bool.{leb-true, ltb-false, eqb-false}
use Rattle.std.proofs.lemmas.List.{length-map}
use Rattle.settings_view.specs.declared.fault.SettingFault.TheVariants.{BadChoice, BadNumber}
use Rattle.settings_view.specs.declared.fault.KeyId.TheVariants.{ObjectFormat, Workers}
use Rattle.std.proofs.lemmas.Str.{IsUtf8-from_is_utf8}
use Rattle.byte_path.specs.Decimal.{is_decimal, decimal_within}
use Rattle.byte_path.specs.Path.{path_fault, first_fault, parts}
use Rattle.byte_path.specs.declared.path.PathFault.{PathFault}
use Rattle.byte_path.specs.declared.path.PathFault.TheVariants as fault
use Rattle.byte_path.specs.Steps.{◌>>=◌, want}
use Rattle.git_index.specs.declared.version.Version.{Version}
use Rattle.git_index.specs.Spelling.{IsIndex, Written, AreWritten}
use Rattle.git_index.specs.declared.entry.Entry.{Entry}
use Rattle.git_index.specs.declared.entry.Mode.{Mode}
use Rattle.git_index.specs.declared.entry.Mode.TheVariants as mode
use Rattle.git_config.specs.declared.setting.Setting.{Setting}
use Rattle.settings_view.specs.View.{settings_of}
use Rattle.settings_view.specs.Keys.{is_key, last_value, crlf_told, eol_told, workers_told, workers_at, threshold_told, has_sha1, told}
use Rattle.settings_view.specs.Drivers.{drivers_told}
use Rattle.settings_view.specs.Number.{number_of, workers_of}
use Rattle.settings_view.specs.declared.drivers.SingleRun.TheVariants.{Smudge}
use Rattle.settings_view.specs.declared.number.Number.{Number}
use Rattle.settings_view.specs.declared.view.Settings.{Settings}
use Rattle.settings_view.specs.declared.view.Driver.{Driver}
use Rattle.settings_view.specs.declared.fault.SettingFault.{SettingFault}
use Rattle.eol_convert.specs.declared.setting.AutoCrlf.{AutoCrlf}
use Rattle.eol_convert.specs.declared.setting.EolSetting.{EolSetting}
use Rattle.attr_stack.specs.declared.files.OuterFiles.{OuterFiles}
use Rattle.attr_stack.specs.declared.files.AttrFiles.{AttrFiles}
use Rattle.attr_stack.specs.Decided.{state_of}
use Rattle.tree_encoding.specs.declared.encoding.UnknownEncoding.{UnknownEncoding}
use Rattle.convert_plan.specs.declared.conversion.Conversion.{Conversion}
use Rattle.convert_plan.specs.Conversion.{conversion_of}
use Rattle.checkout_core.specs.declared.path.Start.{Start}
use Rattle.checkout_core.specs.declared.path.Start.TheVariants as start
use Rattle.checkout_core.specs.declared.verdict.Verdict.TheVariants as verdict
use Rattle.checkout_core.specs.declared.verdict.FailCause.TheVariants as fail
use Rattle.checkout_core.specs.declared.verdict.SkipCause.TheVariants as skip
use Rattle.checkout_words.specs.Words.{with_workers, workers_command, checkout_command, plan_command, rehearse_command, with_numbers, command_of}
use Rattle.checkout_words.specs.declared.Command.{Command}
use Rattle.checkout_words.specs.declared.Command.TheVariants as command
use Rattle.checkout_plan.specs.AttributeFiles.{attribute_files}
use Rattle.checkout_plan.specs.Paths.{conversion_names, filter_start, no_conversion, path_with, closed, converted, file_path, text_path, link_path, path_of_mode, asked_path, first_entries_after, first_entries, asked_paths, start_among, path_among, plan_of}
use Rattle.checkout_plan.specs.declared.path_plan.PathPlan.{PathPlan}
use Rattle.checkout_plan.specs.declared.path_plan.Plan.{Plan}
use Rattle.checkout_engine.proofs.LeftOut.{left_out_by}
use Rattle.checkout_paths.specs.Cards.{IsText, IsTextIn, AreTexts}
use Rattle.edge_kit.specs.Seen.{RepoSeen}
use Rattle.edge_kit.specs.Told.{RepoTold}
use Rattle.checkout_sources.specs.declared.planned.Planned.{Planned}
use Rattle.checkout_paths.specs.declared.workers.Pace.{Pace}
use Rattle.checkout_sources.specs.Reading.{IsRead}
use Rattle.checkout_sources.specs.Sources.{IsPlanned}
use Rattle.checkout_paths.specs.Workers.{IsAsked, IsPace, workers_for}

-- 1 to 16
abbrev IsWithin16 : ℕ → Type 0
IsWithin16 n = (1 ≤ n) × (n ≤ 16)

-- the workers of a number
few_of : (negative : Bool) (size : ℕ) → IsWithin16 (if negative || size == 0 then 8 else min size 16)
few_of true size = (omega arith, omega arith)
few_of false zero = (omega arith, omega arith)
few_of false (suc n) = subst (λ (b : Bool). IsWithin16 (if b then 8 else min (suc n) 16)) (sym (ne_eqb (suc n) 0 (λ e. omega (arith, e)))) (le-min (omega arith) (omega arith), min-le_right (suc n) 16)

some_few : (o : Option Number) (f : SettingFault) (n : ℕ) → ok_or (option_map workers_of o) f ≡ Ok n → IsWithin16 n
some_few None f n e = absurd cc
some_few (Some x) f n e = let is : workers_of x ≡ n = cc e in subst IsWithin16 is (few_of x.negative x.size)

told_few : (value : Option (Option (List ℕ))) (f : SettingFault) (n : ℕ) → told 1 workers_at f value ≡ Ok n → IsWithin16 n
told_few None f n e = let is : 1 ≡ n = cc e in subst IsWithin16 is (omega arith, omega arith)
told_few (Some value) f n e = some_few (number_of value) f n e

-- the settings have the number of workers that is told
abbrev joined : Result AutoCrlf SettingFault → Result EolSetting SettingFault → Result ℕ SettingFault → Result ℕ SettingFault → Bool → SettingFault → Result (List Driver) SettingFault → Result Settings SettingFault
joined a b w t h g d = a >>= (λ autocrlf. b >>= (λ eol. w >>= (λ workers. t >>= (λ threshold. want h g (d >>= (λ drivers. Ok (record { autocrlf = autocrlf; eol = eol; workers = workers; threshold = threshold; drivers = drivers })))))))

workers_in : (a : Result AutoCrlf SettingFault) (b : Result EolSetting SettingFault) (w t : Result ℕ SettingFault) (h : Bool) (g : SettingFault) (d : Result (List Driver) SettingFault) (s : Settings)
    → joined a b w t h g d ≡ Ok s → (n : ℕ) × (w ≡ Ok n) × (n ≡ s.workers)
workers_in (Err f) b w t h g d s e = absurd cc
workers_in (Ok x) (Err f) w t h g d s e = absurd cc
workers_in (Ok x) (Ok y) (Err f) t h g d s e = absurd cc
workers_in (Ok x) (Ok y) (Ok n) (Err f) h g d s e = absurd cc
workers_in (Ok x) (Ok y) (Ok n) (Ok k) false g d s e = absurd cc
workers_in (Ok x) (Ok y) (Ok n) (Ok k) true g (Err f) s e = absurd cc
workers_in (Ok x) (Ok y) (Ok n) (Ok k) true g (Ok ds) s e = (n, refl, ap workers_or e)
  where
    workers_or : Result Settings SettingFault → ℕ
    workers_or (Ok r) = r.workers
    workers_or (Err f) = 0

pub settings_few : (list : List Setting) (s : Settings) → settings_of list ≡ Ok s → IsWithin16 s.workers
settings_few list s e =
    let same : joined (crlf_told list) (eol_told list) (workers_told list) (threshold_told list) (has_sha1 list) (BadChoice ObjectFormat) (drivers_told Smudge list) ≡ Ok s = unfold settings_of in e in
    let found = workers_in (crlf_told list) (eol_told list) (workers_told list) (threshold_told list) (has_sha1 list) (BadChoice ObjectFormat) (drivers_told Smudge list) s same in
    subst IsWithin16 found.2 (told_few (last_value (is_key (codes "checkout") (codes "workers")) list) (BadNumber Workers) found.0 found.1)

-- the numbers of a command are within their limits
abbrev IsWithinLimits : Option Command → Type 0
IsWithinLimits (Some (command.Checkout workers)) = IsAsked workers
IsWithinLimits (Some command.Plan) = Unit {0}
IsWithinLimits (Some (command.Rehearse seed paths)) = paths ≤ 99999
IsWithinLimits None = Unit {0}

within_few : (limit : ℕ) (ds : List ℕ) (b : Bool) (n : ℕ) → (is_decimal ds && nat_le (digits_value 10 ds) limit) ≡ b → (if b then Some (digits_value 10 ds) else None) ≡ Some n → n ≤ limit
within_few limit ds false n is e = absurd cc
within_few limit ds true n is e =
    let same : digits_value 10 ds ≡ n = cc e in
    subst (λ (m : ℕ). m ≤ limit) same (leb-true (digits_value 10 ds) limit (second (is_decimal ds) (nat_le (digits_value 10 ds) limit) is))
  where
    second : (a c : Bool) → (a && c) ≡ true → c ≡ true
    second true c e = e
    second false c e = absurd cc

decimal_few : (text : List ℕ) (limit n : ℕ) → decimal_within text limit ≡ Some n → n ≤ limit
decimal_few text limit n e = within_few limit text (is_decimal text && nat_le (digits_value 10 text) limit) n refl e

with_few : (o : Option ℕ) → ((n : ℕ) → o ≡ Some n → n ≤ 16) → IsWithinLimits (with_workers o)
with_few None few = tt
with_few (Some n) few = by (nat_le 1 n) refl
  where
    by : (b : Bool) → nat_le 1 n ≡ b → IsWithinLimits (if b then Some (command.Checkout (Some n)) else None)
    by true e = (leb-true 1 n e, few n refl)
    by false e = tt

text_few : (text : List ℕ) → IsWithinLimits (workers_command text)
text_few text = with_few (decimal_within text 16) (decimal_few text 16)

if_few : (b : Bool) (c d : Option Command) → IsWithinLimits c → IsWithinLimits d → IsWithinLimits (if b then c else d)
if_few true c d first second = first
if_few false c d first second = second

checkout_few : (tail : List (List ℕ)) → IsWithinLimits (checkout_command tail)
checkout_few [] = tt
checkout_few (word ∷ []) = if_few (bytes_eq (take 10 word) (codes "--workers=")) (workers_command (drop 10 word)) None (text_few (drop 10 word)) tt
checkout_few (word ∷ number ∷ []) = if_few (bytes_eq word (codes "--workers")) (workers_command number) None (text_few number) tt
checkout_few (word ∷ number ∷ other ∷ more) = tt

plan_few : (tail : List (List ℕ)) → IsWithinLimits (plan_command tail)
plan_few [] = tt
plan_few (word ∷ more) = tt

numbers_few : (a b : Option ℕ) → ((n : ℕ) → b ≡ Some n → n ≤ 99999) → IsWithinLimits (with_numbers a b)
numbers_few None b few = tt
numbers_few (Some x) None few = tt
numbers_few (Some x) (Some y) few = few y refl

rehearse_few : (tail : List (List ℕ)) → IsWithinLimits (rehearse_command tail)
rehearse_few [] = tt
rehearse_few (seed ∷ []) = tt
rehearse_few (seed ∷ paths ∷ []) = numbers_few (decimal_within seed (2 ^ 64 - 1)) (decimal_within paths 99999) (decimal_few paths 99999)
rehearse_few (seed ∷ paths ∷ other ∷ more) = tt

command_few : (words : List (List ℕ)) → IsWithinLimits (command_of words)
command_few [] = tt
command_few (repo ∷ []) = tt
command_few (repo ∷ tree ∷ []) = tt
command_few (repo ∷ tree ∷ name ∷ tail) =
    let last : IsWithinLimits (if bytes_eq name (codes "rehearse") then rehearse_command tail else None) = if_few (bytes_eq name (codes "rehearse")) (rehearse_command tail) None (rehearse_few tail) tt in
    let next : IsWithinLimits (if bytes_eq name (codes "plan") then plan_command tail else if bytes_eq name (codes "rehearse") then rehearse_command tail else None) =
    if_few (bytes_eq name (codes "plan")) (plan_command tail) (if bytes_eq name (codes "rehearse") then rehearse_command tail else None) (plan_few tail) last in
    if_few (bytes_eq name (codes "checkout")) (checkout_command tail) (if bytes_eq name (codes "plan") then plan_command tail else if bytes_eq name (codes "rehearse") then rehearse_command tail else None)
    (checkout_few tail) next

pub asked_few : (words : List (List ℕ)) (workers : Option ℕ) → command_of words ≡ Some (command.Checkout workers) → IsAsked workers
asked_few words workers e = subst IsWithinLimits e (command_few words)

pub paths_few : (words : List (List ℕ)) (seed paths : ℕ) → command_of words ≡ Some (command.Rehearse seed paths) → paths ≤ 99999
paths_few words seed paths e = subst IsWithinLimits e (command_few words)

-- one to sixteen workers
pub count_few : (asked : Option ℕ) (workers threshold cards : ℕ) → IsAsked asked → IsWithin16 workers → IsWithin16 (workers_for asked workers threshold cards)
count_few asked workers threshold cards some few = by (nat_lt cards threshold) asked some
  where
    by : (b : Bool) (asked : Option ℕ) → IsAsked asked → IsWithin16 (if b then 1 else unwrap_or asked workers)
    by true asked some = (omega arith, omega arith)
    by false None some = few
    by false (Some n) some = some

-- a path without a fault has 1 to 4,096 bytes
abbrev IsLong : List ℕ → Type 0
IsLong path = (0 < length path) × (length path ≤ 4096)

long_by : (n : ℕ) (z b : Bool) (more : Option PathFault) → (n == 0) ≡ z → nat_lt 4096 n ≡ b → (if z then Some fault.Empty else if b then Some fault.TooLong else more) ≡ None → (0 < n) × (n ≤ 4096)
long_by n true b more zero_is is e = absurd cc
long_by n false true more zero_is is e = absurd cc
long_by zero false false more zero_is is e = absurd (eqb-false 0 0 zero_is refl)
long_by (suc n) false false more zero_is is e = (omega arith, ltb-false 4096 (suc n) is)

path_long : (path : List ℕ) → path_fault path ≡ None → IsLong path
path_long path e =
    let same : (if length path == 0 then Some fault.Empty else if nat_lt 4096 (length path) then Some fault.TooLong else first_fault (parts path)) ≡ None = unfold path_fault in e in
    long_by (length path) (length path == 0) (nat_lt 4096 (length path)) (first_fault (parts path)) refl refl same

written_long : (version : Version) (last : List ℕ) (ws : List Written) → AreWritten version last ws → AllByRecursion (λ e. IsLong e.path) (map (λ w. w.entry) ws)
written_long version last [] all = tt
written_long version last (w ∷ ws) all = (path_long w.entry.path all.0.path, written_long version w.entry.path ws all.1)

first_long : (c : List ℕ) (es : List Entry) → AllByRecursion (λ e. IsLong e.path) es → AllByRecursion (λ e. IsLong e.path) (first_entries_after c es)
first_long c [] all = tt
first_long c (e ∷ es) all = by (bytes_eq e.path c) (first_long c es all.1) (all.0, first_long e.path es all.1)
  where
    by : (b : Bool) → AllByRecursion (λ e. IsLong e.path) (first_entries_after c es) → AllByRecursion (λ e. IsLong e.path) (e ∷ first_entries_after e.path es)
        → AllByRecursion (λ e. IsLong e.path) (if b then first_entries_after c es else e ∷ first_entries_after e.path es)
    by true first second = first
    by false first second = second

first_few : (c : List ℕ) (es : List Entry) → length (first_entries_after c es) ≤ length es
first_few c [] = omega arith
first_few c (e ∷ es) = by (bytes_eq e.path c) (first_few c es) (first_few e.path es)
  where
    by : (b : Bool) → length (first_entries_after c es) ≤ length es → length (first_entries_after e.path es) ≤ length es
        → length (if b then first_entries_after c es else e ∷ first_entries_after e.path es) ≤ suc (length es)
    by true first second = omega (arith, first)
    by false first second = omega (arith, second)

-- the plan of an entry leaves it open only if its path is text
abbrev IsPlannedText : PathPlan → Type 0
IsPlannedText p = IsTextIn p.start p.path

long_text : (path : List ℕ) → IsLong path → IsUtf8 path → IsText path
long_text path long text = record { text = text; some = long.0; within = long.1 }

converted_text : (e : Entry) (begin : Start) (c : Result Conversion UnknownEncoding) → IsLong e.path → IsUtf8 e.path → IsPlannedText (converted e begin c)
converted_text e (start.Done v) (Ok c) long text = tt
converted_text e start.Pool (Ok c) long text = long_text e.path long text
converted_text e (start.Desk place required) (Ok c) long text = long_text e.path long text
converted_text e (start.Done v) (Err u) long text = tt
converted_text e start.Pool (Err u) long text = tt
converted_text e (start.Desk place required) (Err u) long text = tt

text_by : (e : Entry) (p : PathPlan) (b : Bool) → is_utf8 e.path ≡ b → (IsUtf8 e.path → IsPlannedText p) → IsPlannedText (if b then p else closed e (verdict.Failed fail.NameNotText))
text_by e p true is text = text (IsUtf8-from_is_utf8 e.path is)
text_by e p false is text = tt

file_text : (files : AttrFiles) (settings : Settings) (e : Entry) → IsLong e.path → IsUtf8 e.path → IsPlannedText (file_path files settings e)
file_text files settings e long text =
    converted_text e (filter_start settings.drivers (state_of files e.path (codes "filter")))
    (conversion_of (map (state_of files e.path) conversion_names) settings.autocrlf settings.eol) long text

mode_text : (m : Mode) (files : AttrFiles) (settings : Settings) (e : Entry) → IsLong e.path → IsPlannedText (path_of_mode m files settings e)
mode_text mode.Plain files settings e long = left_out_by IsPlannedText e (text_path files settings e) (λ v. tt) (text_by e (file_path files settings e) (is_utf8 e.path) refl (file_text files settings e long))
mode_text mode.Executable files settings e long = left_out_by IsPlannedText e (text_path files settings e) (λ v. tt) (text_by e (file_path files settings e) (is_utf8 e.path) refl (file_text files settings e long))
mode_text mode.Link files settings e long = left_out_by IsPlannedText e (link_path e) (λ v. tt) (text_by e (path_with e no_conversion start.Pool) (is_utf8 e.path) refl (long_text e.path long))
mode_text mode.Gitlink files settings e long = tt

asked_text : (files : AttrFiles) (settings : Settings) (e : Entry) → IsLong e.path → IsPlannedText (asked_path files settings e)
asked_text files settings e long = by (e.stage == 0)
  where
    by : (b : Bool) → IsPlannedText (if b then path_of_mode e.mode files settings e else closed e (verdict.Skipped skip.Unmerged))
    by true = mode_text e.mode files settings e long
    by false = tt

among_text : (asked : List PathPlan) (path : List ℕ) (s : Start) → IsTextIn s path → IsTextIn (start_among asked s) path
among_text asked path (start.Done v) text = tt
among_text asked path start.Pool text = text
among_text asked path (start.Desk place required) text = text

all_text : (files : AttrFiles) (settings : Settings) (asked : List PathPlan) (es : List Entry) → AllByRecursion (λ e. IsLong e.path) es
    → AreTexts (map (path_among asked) (map (asked_path files settings) es))
all_text files settings asked [] all = tt
all_text files settings asked (e ∷ es) all =
    (among_text asked (asked_path files settings e).path (asked_path files settings e).start (asked_text files settings e all.0), all_text files settings asked es all.1)

pub plan_texts : (bytes : List ℕ) (es : List Entry) (settings : Settings) (outer : OuterFiles) (contents : List (List ℕ)) → IsIndex bytes es → AreTexts (plan_of es settings outer contents).paths
plan_texts bytes es settings outer contents index = unfold plan_of in
    let files = attribute_files outer es contents in
    all_text files settings (asked_paths files settings es) (first_entries es)
    (first_long [] es (subst (λ (xs : List Entry). AllByRecursion (λ e. IsLong e.path) xs) index.text.same (written_long index.text.version [] index.text.written index.text.fit)))

-- a plan has no more paths than the index has entries
pub no_more_paths : (es : List Entry) (settings : Settings) (outer : OuterFiles) (contents : List (List ℕ)) → length (plan_of es settings outer contents).paths ≤ length es
no_more_paths es settings outer contents = unfold plan_of in
    let files = attribute_files outer es contents in
    omega (
      arith,
      length-map (map (asked_path files settings) (first_entries es)) (path_among (asked_paths files settings es)),
      length-map (first_entries es) (asked_path files settings),
      first_few [] es,
    )

pub plan_size : (bytes : List ℕ) (es : List Entry) (settings : Settings) (outer : OuterFiles) (contents : List (List ℕ)) → IsIndex bytes es → length (plan_of es settings outer contents).paths < 2 ^ 32
plan_size bytes es settings outer contents index = omega (arith, no_more_paths es settings outer contents, index.text.few)

-- the same of a plan that was read
pub planned_texts : (told : RepoTold) (plan : Plan) → IsPlanned told plan → AreTexts plan.paths
planned_texts told plan planned =
    subst (λ (p : Plan). AreTexts p.paths) (sym planned.made.is) (plan_texts _ planned.entries planned.settings planned.outer planned.made.contents planned.sources.index.is_index)

pub planned_size : (told : RepoTold) (plan : Plan) → IsPlanned told plan → length plan.paths < 2 ^ 32
planned_size told plan planned =
    subst (λ (p : Plan). length p.paths < 2 ^ 32) (sym planned.made.is) (plan_size _ planned.entries planned.settings planned.outer planned.made.contents planned.sources.index.is_index)

-- the pace of a plan that was read
pub planned_pace : (told : RepoTold) (p : Planned) (old new : RepoSeen) (pace : Pace) → IsAsked pace.asked → IsRead told p old new → pace.workers ≡ p.workers → IsPace pace
planned_pace told p old new pace asked read same =
    let config = read.read.planned.sources.config in
    let few = settings_few config.list read.read.planned.settings config.says in
    let is : read.read.planned.settings.workers ≡ pace.workers = sym (same ∙ read.workers) in
    record { asked = asked; some = subst (λ (n : ℕ). 1 ≤ n) is few.0; few = subst (λ (n : ℕ). n ≤ 16) is few.1 }
