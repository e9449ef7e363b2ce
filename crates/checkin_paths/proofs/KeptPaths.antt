-- The paths that the plan of a checkout closes since it skips them, or since their names aren't text.
use Rattle.std.proofs.Common.{◌≡◌, ℕ, suc, Bool, true, false, List, [], ◌∷◌, map, codes, refl, Option, Some, None, Result, Ok, Err}
use Rattle.std.specs.Prelude.{◌||◌, ◌==◌, not, if◌then◌else◌}
use Rattle.std.specs.Str.{bytes_eq, is_utf8}
use Rattle.git_index.specs.declared.entry.Entry.{Entry}
use Rattle.git_index.specs.declared.entry.Mode.{Mode}
use Rattle.git_index.specs.declared.entry.Mode.TheVariants as mode
use Rattle.attr_line.specs.declared.state.AttrState.{AttrState}
use Rattle.attr_line.specs.declared.state.AttrState.TheVariants as state
use Rattle.attr_stack.specs.declared.files.AttrFiles.{AttrFiles}
use Rattle.attr_stack.specs.Decided.{state_of}
use Rattle.settings_view.specs.declared.view.Driver.{Driver}
use Rattle.settings_view.specs.declared.view.Settings.{Settings}
use Rattle.tree_encoding.specs.declared.encoding.UnknownEncoding.{UnknownEncoding}
use Rattle.convert_plan.specs.declared.conversion.Conversion.{Conversion}
use Rattle.convert_plan.specs.Conversion.{conversion_of}
use Rattle.checkout_core.specs.declared.verdict.Verdict.TheVariants as verdict
use Rattle.checkout_core.specs.declared.verdict.FailCause.TheVariants as fail
use Rattle.checkout_core.specs.declared.verdict.SkipCause.TheVariants as skip
use Rattle.checkout_core.specs.declared.path.Start.{Start}
use Rattle.checkout_core.specs.declared.path.Start.TheVariants as start
use Rattle.checkout_plan.specs.declared.path_plan.PathPlan.{PathPlan}
use Rattle.checkout_plan.specs.Paths.{conversion_names, no_conversion, path_with, closed, start_by, start_at, start_named, filter_start, converted, file_path, text_path, link_path, unless_left_out, path_of_mode}
use Rattle.checkin_paths.specs.Paths.{is_kept_start, is_kept}

abbrev pub is_gitlink : Mode → Bool
is_gitlink mode.Gitlink = true
is_gitlink mode.Plain = false
is_gitlink mode.Executable = false
is_gitlink mode.Link = false

-- the entry's path is unmerged, a gitlink, left out, or no text
abbrev pub is_left_out : Entry → Bool
is_left_out e = not (e.stage == 0) || is_gitlink e.mode || e.sparse || e.intent || not (is_utf8 e.path)

by_command : (place : ℕ) (process : Option (List ℕ)) (required : Bool) → is_kept_start (start_by place process required) ≡ false
by_command place (Some process) required = refl
by_command place None true = refl
by_command place None false = refl

by_name : (place : ℕ) (ds : List Driver) (name : List ℕ) → is_kept_start (start_named place ds name) ≡ false
by_name place [] name = refl
by_name place (d ∷ ds) name = elim (bytes_eq d.name name) as (λ t. is_kept_start (if t then start_at place d else start_named (suc place) ds name) ≡ false) [
  | true ↦ by_command place d.process d.required
  | false ↦ by_name (suc place) ds name
]

pub by_filter : (ds : List Driver) (s : AttrState) → is_kept_start (filter_start ds s) ≡ false
by_filter ds (state.Value name) = by_name 0 ds name
by_filter ds state.Set = refl
by_filter ds state.Unset = refl
by_filter ds state.Unspecified = refl

by_conversion : (e : Entry) (begin : Start) (c : Result Conversion UnknownEncoding) → is_kept_start begin ≡ false → is_kept_start (converted e begin c).start ≡ false
by_conversion e begin (Ok c) is = is
by_conversion e begin (Err u) is = refl

of_text : (files : AttrFiles) (settings : Settings) (e : Entry) → is_kept_start (text_path files settings e).start ≡ not (is_utf8 e.path)
of_text files settings e = elim (is_utf8 e.path) as (λ t. is_kept_start (if t then file_path files settings e else closed e (verdict.Failed fail.NameNotText)).start ≡ not t) [
  | true ↦
      by_conversion e (filter_start settings.drivers (state_of files e.path (codes "filter"))) (conversion_of (map (state_of files e.path) conversion_names) settings.autocrlf settings.eol)
      (by_filter settings.drivers (state_of files e.path (codes "filter")))
  | false ↦ refl
]

of_link : (e : Entry) → is_kept_start (link_path e).start ≡ not (is_utf8 e.path)
of_link e = elim (is_utf8 e.path) as (λ t. is_kept_start (if t then path_with e no_conversion start.Pool else closed e (verdict.Failed fail.NameNotText)).start ≡ not t) [
  | true ↦ refl
  | false ↦ refl
]

left_out : (e : Entry) (p : PathPlan) (text : Bool) → is_kept_start p.start ≡ not text → is_kept_start (unless_left_out e p).start ≡ (e.sparse || e.intent || not text)
left_out e p text is = by e.sparse e.intent
  where
    by : (a b : Bool) → is_kept_start (if a then closed e (verdict.Skipped skip.Sparse) else if b then closed e (verdict.Skipped skip.Intent) else p).start ≡ (a || b || not text)
    by true b = refl
    by false true = refl
    by false false = is

of_mode : (m : Mode) (files : AttrFiles) (settings : Settings) (e : Entry) → is_kept_start (path_of_mode m files settings e).start ≡ (is_gitlink m || e.sparse || e.intent || not (is_utf8 e.path))
of_mode mode.Plain files settings e = left_out e (text_path files settings e) (is_utf8 e.path) (of_text files settings e)
of_mode mode.Executable files settings e = left_out e (text_path files settings e) (is_utf8 e.path) (of_text files settings e)
of_mode mode.Link files settings e = left_out e (link_path e) (is_utf8 e.path) (of_link e)
of_mode mode.Gitlink files settings e = refl

-- the plan closes the path of an entry so where the entry is left out
pub kept_is_left_out : (files : AttrFiles) (settings : Settings) (e : Entry) → is_kept files settings e ≡ is_left_out e
kept_is_left_out files settings e = elim (e.stage == 0) as (λ t. is_kept_start (if t then path_of_mode e.mode files settings e else closed e (verdict.Skipped skip.Unmerged)).start ≡ (not t || is_gitlink e.mode || e.sparse || e.intent || not (is_utf8 e.path))) [
  | true ↦ of_mode e.mode files settings e
  | false ↦ refl
]
