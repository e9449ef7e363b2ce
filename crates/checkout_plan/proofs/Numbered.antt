-- Each path's driver is one of the settings, and gets its number among those in use.
use Rattle.std.proofs.Common.{◌≡◌, ℕ, suc, ◌+◌, ◌<◌, ◌≤◌, Bool, true, false, cond, List, [], ◌∷◌, length, map, get_or, codes, Option, Some, None, Result, Ok, Err, refl, ap, ◌∙◌, arith}
use Rattle.std.proofs.lemmas.List.{get_or_default}
use Rattle.std.proofs.lemmas.List.Elements.{All-head, All-tail, All-map}
use Rattle.std.specs.List.{All}
use Rattle.std.specs.Str.{bytes_eq, is_utf8}
use Rattle.git_index.specs.declared.entry.Entry.{Entry}
use Rattle.git_index.specs.declared.entry.Mode.{Mode}
use Rattle.git_index.specs.declared.entry.Mode.TheVariants as mode
use Rattle.attr_line.specs.declared.state.AttrState.{AttrState}
use Rattle.attr_line.specs.declared.state.AttrState.TheVariants as state
use Rattle.attr_stack.specs.declared.files.AttrFiles.{AttrFiles}
use Rattle.attr_stack.specs.Decided.{state_of}
use Rattle.tree_encoding.specs.declared.encoding.UnknownEncoding.{UnknownEncoding}
use Rattle.convert_plan.specs.declared.conversion.Conversion.{Conversion}
use Rattle.convert_plan.specs.Conversion.{conversion_of}
use Rattle.checkout_core.specs.declared.path.Start.{Start}
use Rattle.checkout_core.specs.declared.path.Start.TheVariants as start
use Rattle.checkout_core.specs.declared.verdict.Verdict.TheVariants.{Failed, Skipped}
use Rattle.checkout_core.specs.declared.verdict.FailCause.TheVariants.{NameNotText}
use Rattle.checkout_core.specs.declared.verdict.SkipCause.TheVariants.{Unmerged}
use Rattle.settings_view.specs.declared.view.Driver.{Driver}
use Rattle.settings_view.specs.declared.view.Settings.{Settings}
use Rattle.checkout_plan.proofs.LeftOut.{left_out_by}
use Rattle.checkout_plan.specs.declared.path_plan.PathPlan.{PathPlan}
use Rattle.checkout_plan.specs.declared.path_plan.Plan.{Plan}
use Rattle.checkout_plan.specs.AttributeFiles.{skipped_lines}
use Rattle.checkout_plan.specs.Paths.{closed, start_by, start_at, start_named, filter_start, converted, conversion_names, file_path, text_path, link_path, path_of_mode, asked_path, asked_paths, first_entries, used_from, path_among, start_among, plan_with}
use Rattle.checkout_plan.specs.Seen.{AreNumbers, StartsWithin, IsWithin, renumbered, renumbered_start}

-- ---- within

start_if : (n : ℕ) (b : Bool) (s t : Start) → StartsWithin n s → StartsWithin n t → StartsWithin n (cond b s t)
start_if n true s t first second = first
start_if n false s t first second = second

path_if : (n : ℕ) (b : Bool) (p q : PathPlan) → IsWithin n p → IsWithin n q → IsWithin n (cond b p q)
path_if n true p q first second = first
path_if n false p q first second = second

by_within : (n k : ℕ) (process : Option (List ℕ)) (required : Bool) → k < n → StartsWithin n (start_by k process required)
by_within n k (Some process) required lt = lt
by_within n k None true lt = tt
by_within n k None false lt = tt

named_within : (n k : ℕ) (ds : List Driver) (name : List ℕ) → k + length ds ≤ n → StartsWithin n (start_named k ds name)
named_within n k [] name le = tt
named_within n k (d ∷ ds) name le = start_if n (bytes_eq d.name name) (start_at k d) (start_named (suc k) ds name) (by_within n k d.process d.required (omega arith)) (named_within n (suc k) ds name (omega arith))

filter_within : (drivers : List Driver) (s : AttrState) → StartsWithin (length drivers) (filter_start drivers s)
filter_within drivers (state.Value name) = named_within (length drivers) 0 drivers name (omega arith)
filter_within drivers state.Set = tt
filter_within drivers state.Unset = tt
filter_within drivers state.Unspecified = tt

converted_within : (n : ℕ) (e : Entry) (s : Start) (r : Result Conversion UnknownEncoding) → StartsWithin n s → IsWithin n (converted e s r)
converted_within n e s (Err unknown) lt = tt
converted_within n e (start.Done v) (Ok conversion) lt = tt
converted_within n e start.Pool (Ok conversion) lt = tt
converted_within n e (start.Desk place required) (Ok conversion) lt = lt

text_within : (files : AttrFiles) (settings : Settings) (e : Entry) → IsWithin (length settings.drivers) (text_path files settings e)
text_within files settings e =
    path_if (length settings.drivers) (is_utf8 e.path) (file_path files settings e) (closed e (Failed NameNotText))
    (converted_within (length settings.drivers) e (filter_start settings.drivers (state_of files e.path (codes "filter"))) (conversion_of (map (state_of files e.path) conversion_names) settings.autocrlf settings.eol)
    (filter_within settings.drivers (state_of files e.path (codes "filter"))))
    tt

mode_within : (m : Mode) (files : AttrFiles) (settings : Settings) (e : Entry) → IsWithin (length settings.drivers) (path_of_mode m files settings e)
mode_within mode.Plain files settings e = left_out_by (IsWithin (length settings.drivers)) e (text_path files settings e) (λ v. tt) (text_within files settings e)
mode_within mode.Executable files settings e = left_out_by (IsWithin (length settings.drivers)) e (text_path files settings e) (λ v. tt) (text_within files settings e)
mode_within mode.Link files settings e = left_out_by (IsWithin (length settings.drivers)) e (link_path e) (λ v. tt) (path_if (length settings.drivers) (is_utf8 e.path) _ _ tt tt)
mode_within mode.Gitlink files settings e = tt

path_within : (files : AttrFiles) (settings : Settings) (e : Entry) → IsWithin (length settings.drivers) (asked_path files settings e)
path_within files settings e = path_if (length settings.drivers) _ (path_of_mode e.mode files settings e) (closed e (Skipped Unmerged)) (mode_within e.mode files settings e) tt

pub all_within : (files : AttrFiles) (settings : Settings) (es : List Entry) → All (IsWithin (length settings.drivers)) (asked_paths files settings es)
all_within files settings es = All-map (IsWithin (length settings.drivers)) (asked_path files settings) (first_entries es) (λ k d lt. path_within files settings (get_or (first_entries es) k d))

-- ---- numbered

same_start : (numbers : List ℕ) (asked : List PathPlan) (s : Start) → AreNumbers numbers asked → StartsWithin (length numbers) s → renumbered_start numbers s ≡ start_among asked s
same_start numbers asked (start.Desk place required) are lt = ap (λ (k : ℕ). start.Desk k required) (get_or_default numbers place place 0 lt ∙ are place lt)
same_start numbers asked start.Pool are lt = refl
same_start numbers asked (start.Done v) are lt = refl

same_path : (numbers : List ℕ) (asked : List PathPlan) (p : PathPlan) → AreNumbers numbers asked → IsWithin (length numbers) p → renumbered numbers p ≡ path_among asked p
same_path numbers asked p are lt = ap (λ (s : Start). record p { start = s }) (same_start numbers asked p.start are lt)

same_paths : (numbers : List ℕ) (asked xs : List PathPlan) → AreNumbers numbers asked → All (IsWithin (length numbers)) xs → map (renumbered numbers) xs ≡ map (path_among asked) xs
same_paths numbers asked [] are within = refl
same_paths numbers asked (p ∷ ps) are within =
    ap (λ (q : PathPlan). q ∷ map (renumbered numbers) ps) (same_path numbers asked p are (All-head (IsWithin (length numbers)) p ps within))
    ∙ ap (λ (qs : List PathPlan). path_among asked p ∷ qs) (same_paths numbers asked ps are (All-tail (IsWithin (length numbers)) p ps within))

as_plan : List PathPlan → List Driver → ℕ → Plan
as_plan paths drivers lines = record { paths = paths; drivers = drivers; skipped_lines = lines }

pub plan_is : (files : AttrFiles) (asked paths : List PathPlan) (settings : Settings) (kept : List Driver) (numbers : List ℕ) (lines : ℕ) → All (IsWithin (length numbers)) asked → AreNumbers numbers asked
    → paths ≡ map (renumbered numbers) asked → kept ≡ used_from 0 asked settings.drivers → lines ≡ skipped_lines files
    → record { paths = paths; drivers = kept; skipped_lines = lines } ≡ plan_with files asked settings
unfolding as_plan
plan_is files asked paths settings kept numbers lines within are renumbered_paths in_use counted =
    ap (λ (ps : List PathPlan). as_plan ps kept lines) (renumbered_paths ∙ same_paths numbers asked asked are within)
    ∙ ap (λ (ds : List Driver). as_plan (map (path_among asked) asked) ds lines) in_use
    ∙ ap (λ (n : ℕ). as_plan (map (path_among asked) asked) (used_from 0 asked settings.drivers) n) counted
