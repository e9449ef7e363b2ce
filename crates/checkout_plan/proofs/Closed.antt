-- Why a plan closes a path.
use Rattle.std.proofs.Common.{ℕ, suc, Bool, true, false, ◌==◌, if◌then◌else◌, List, [], ◌∷◌, map, codes, Option, Some, None, Result, Ok, Err}
use Rattle.std.specs.List.{AllByRecursion}
use Rattle.std.specs.Str.{bytes_eq, is_utf8}
use Rattle.git_index.specs.declared.entry.Entry.{Entry}
use Rattle.git_index.specs.declared.entry.Mode.{Mode}
use Rattle.git_index.specs.declared.entry.Mode.TheVariants as mode
use Rattle.attr_line.specs.declared.state.AttrState.{AttrState}
use Rattle.attr_line.specs.declared.state.AttrState.TheVariants as state
use Rattle.attr_stack.specs.declared.files.OuterFiles.{OuterFiles}
use Rattle.attr_stack.specs.declared.files.AttrFiles.{AttrFiles}
use Rattle.attr_stack.specs.Decided.{state_of}
use Rattle.settings_view.specs.declared.view.Driver.{Driver}
use Rattle.settings_view.specs.declared.view.Settings.{Settings}
use Rattle.tree_encoding.specs.declared.encoding.UnknownEncoding.{UnknownEncoding}
use Rattle.convert_plan.specs.declared.conversion.Conversion.{Conversion}
use Rattle.convert_plan.specs.Conversion.{conversion_of}
use Rattle.checkout_core.specs.declared.verdict.Verdict.TheVariants as verdict
use Rattle.checkout_core.specs.declared.verdict.FailCause.TheVariants as fail
use Rattle.checkout_core.specs.declared.verdict.SkipCause.TheVariants as skip
use Rattle.checkout_core.specs.declared.path.Start.{Start}
use Rattle.checkout_core.specs.declared.path.Start.TheVariants as start
use Rattle.checkout_plan.proofs.LeftOut.{left_out_by}
use Rattle.checkout_plan.specs.AttributeFiles.{attribute_files}
use Rattle.checkout_plan.specs.declared.path_plan.PathPlan.{PathPlan}
use Rattle.checkout_plan.specs.Paths.{conversion_names, no_conversion, path_with, closed, start_by, start_at, start_named, filter_start, converted, file_path, text_path, link_path, path_of_mode, asked_path, first_entries, asked_paths, start_among, path_among, plan_of, HasCause}

start_by-cause : (place : ℕ) (process : Option (List ℕ)) (required : Bool) → HasCause (start_by place process required)
start_by-cause place (Some process) required = tt
start_by-cause place None true = tt
start_by-cause place None false = tt

start_named-cause : (place : ℕ) (ds : List Driver) (name : List ℕ) → HasCause (start_named place ds name)
start_named-cause place [] name = tt
start_named-cause place (d ∷ ds) name = elim (bytes_eq d.name name) as (λ t. HasCause (if t then start_at place d else start_named (suc place) ds name)) [
  | true ↦ start_by-cause place d.process d.required
  | false ↦ start_named-cause (suc place) ds name
]

filter_start-cause : (ds : List Driver) (s : AttrState) → HasCause (filter_start ds s)
filter_start-cause ds (state.Value name) = start_named-cause 0 ds name
filter_start-cause ds state.Set = tt
filter_start-cause ds state.Unset = tt
filter_start-cause ds state.Unspecified = tt

converted-cause : (e : Entry) (begin : Start) (c : Result Conversion UnknownEncoding) → HasCause begin → HasCause (converted e begin c).start
converted-cause e begin (Ok c) cause = cause
converted-cause e begin (Err u) cause = tt

text_path-cause : (files : AttrFiles) (settings : Settings) (e : Entry) → HasCause (text_path files settings e).start
text_path-cause files settings e = elim (is_utf8 e.path) as (λ t. HasCause (if t then file_path files settings e else closed e (verdict.Failed fail.NameNotText)).start) [
  | true ↦
      converted-cause e (filter_start settings.drivers (state_of files e.path (codes "filter"))) (conversion_of (map (state_of files e.path) conversion_names) settings.autocrlf settings.eol)
      (filter_start-cause settings.drivers (state_of files e.path (codes "filter")))
  | false ↦ tt
]

link_path-cause : (e : Entry) → HasCause (link_path e).start
link_path-cause e = elim (is_utf8 e.path) as (λ t. HasCause (if t then path_with e no_conversion start.Pool else closed e (verdict.Failed fail.NameNotText)).start) [
  | true ↦ tt
  | false ↦ tt
]

mode-cause : (m : Mode) (files : AttrFiles) (settings : Settings) (e : Entry) → HasCause (path_of_mode m files settings e).start
mode-cause mode.Plain files settings e = left_out_by (λ p. HasCause p.start) e (text_path files settings e) (λ c. tt) (text_path-cause files settings e)
mode-cause mode.Executable files settings e = left_out_by (λ p. HasCause p.start) e (text_path files settings e) (λ c. tt) (text_path-cause files settings e)
mode-cause mode.Link files settings e = left_out_by (λ p. HasCause p.start) e (link_path e) (λ c. tt) (link_path-cause e)
mode-cause mode.Gitlink files settings e = tt

asked-cause : (files : AttrFiles) (settings : Settings) (e : Entry) → HasCause (asked_path files settings e).start
asked-cause files settings e = elim (e.stage == 0) as (λ t. HasCause (if t then path_of_mode e.mode files settings e else closed e (verdict.Skipped skip.Unmerged)).start) [
  | true ↦ mode-cause e.mode files settings e
  | false ↦ tt
]

-- a driver's number among those in use changes no cause
among-cause : (asked : List PathPlan) (s : Start) → HasCause s → HasCause (start_among asked s)
among-cause asked (start.Done v) cause = cause
among-cause asked start.Pool cause = tt
among-cause asked (start.Desk place required) cause = tt

all_causes : (files : AttrFiles) (settings : Settings) (asked : List PathPlan) (es : List Entry)
    → AllByRecursion (λ p. HasCause p.start) (map (path_among asked) (map (asked_path files settings) es))
all_causes files settings asked [] = tt
all_causes files settings asked (e ∷ es) =
    (among-cause asked (asked_path files settings e).start (asked-cause files settings e), all_causes files settings asked es)

pub closed_causes : (es : List Entry) (settings : Settings) (outer : OuterFiles) (contents : List (List ℕ))
    → AllByRecursion (λ p. HasCause p.start) (plan_of es settings outer contents).paths
closed_causes es settings outer contents =
    let files = attribute_files outer es contents in
    unfold plan_of in all_causes files settings (asked_paths files settings es) (first_entries es)
