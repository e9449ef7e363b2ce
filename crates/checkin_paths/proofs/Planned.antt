-- What is done with each path of an index is what its plan says.
use Rattle.std.proofs.Common.{◌≡◌, ℕ, suc, Bool, true, false, List, [], ◌∷◌, codes, map, Option, Some, None, Result, Ok, Err, refl, ap, ◌∙◌}
use Rattle.std.specs.Prelude.{◌==◌, if◌then◌else◌}
use Rattle.std.specs.Str.{bytes_eq, is_utf8}
use Rattle.git_index.specs.declared.entry.Entry.{Entry}
use Rattle.git_index.specs.declared.entry.Mode.{Mode}
use Rattle.git_index.specs.declared.entry.Mode.TheVariants as mode
use Rattle.attr_line.specs.declared.state.AttrState.{AttrState}
use Rattle.attr_line.specs.declared.state.AttrState.TheVariants as state
use Rattle.attr_stack.specs.declared.files.AttrFiles.{AttrFiles}
use Rattle.attr_stack.specs.declared.files.OuterFiles.{OuterFiles}
use Rattle.settings_view.specs.declared.view.Driver.{Driver}
use Rattle.settings_view.specs.declared.view.Settings.{Settings}
use Rattle.eol_convert.specs.declared.action.Action.{Action}
use Rattle.eol_convert.specs.Action.{action_of}
use Rattle.tree_encoding.specs.declared.encoding.Encoding.{Encoding}
use Rattle.tree_encoding.specs.declared.encoding.UnknownEncoding.{UnknownEncoding}
use Rattle.tree_encoding.specs.Named.{encoding_of}
use Rattle.convert_plan.specs.Conversion.{is_set, with_encoding}
use Rattle.checkout_core.specs.declared.verdict.Verdict.TheVariants as verdict
use Rattle.checkout_core.specs.declared.verdict.FailCause.TheVariants as fail
use Rattle.checkout_core.specs.declared.verdict.SkipCause.TheVariants as skip
use Rattle.checkout_core.specs.declared.path.Start.{Start}
use Rattle.checkout_core.specs.declared.path.Start.TheVariants as start
use Rattle.checkout_plan.specs.AttributeFiles.{attribute_files}
use Rattle.checkout_plan.specs.declared.path_plan.PathPlan.{PathPlan}
use Rattle.checkout_plan.specs.Paths.{no_conversion, path_with, closed, converted, start_by, start_at, start_named, filter_start, place_named, filter_place, start_of, file_path, text_path, link_path, unless_left_out, path_of_mode, asked_path, asked_paths, first_entries, start_among, path_among, plan_of, PlacesStart}
use Rattle.checkin_paths.specs.declared.path.CheckinPath.{CheckinPath}
use Rattle.checkin_paths.specs.declared.path.Storing.{Storing}
use Rattle.checkin_paths.specs.declared.path.Way.{Way}
use Rattle.checkin_paths.specs.declared.path.Way.TheVariants.{Kept}
use Rattle.checkin_paths.specs.Paths.{is_kept_start, state_at, way_by, encoded_way, file_way, way_of_mode, checkin_path, checkin_paths}
use Rattle.checkin_paths.specs.PlannedWays.{way_for, planned_path, planned_paths}
use Rattle.checkin_paths.proofs.Drivers.{AreAlike}
use Rattle.checkin_paths.proofs.KeptPaths.{by_filter}

-- ---- a way, by how a path begins

-- a driver's number is of no matter
by_number : (asked : List PathPlan) (s : Start) (way : Way) → way_for (start_among asked s) way ≡ way_for s way
by_number asked (start.Done v) way = refl
by_number asked start.Pool way = refl
by_number asked (start.Desk place required) way = refl

-- no driver closes a path but for itself
by_command : (place : ℕ) (process : Option (List ℕ)) (required : Bool) (way : Way) → way_for (start_by place process required) way ≡ way
by_command place (Some process) required way = refl
by_command place None true way = refl
by_command place None false way = refl

by_name : (place : ℕ) (ds : List Driver) (name : List ℕ) (way : Way) → way_for (start_named place ds name) way ≡ way
by_name place [] name way = refl
by_name place (d ∷ ds) name way = elim (bytes_eq d.name name) as (λ t. way_for (if t then start_at place d else start_named (suc place) ds name) way ≡ way) [
  | true ↦ by_command place d.process d.required way
  | false ↦ by_name (suc place) ds name way
]

by_driver : (ds : List Driver) (s : AttrState) (way : Way) → way_for (filter_start ds s) way ≡ way
by_driver ds (state.Value name) way = by_name 0 ds name way
by_driver ds state.Set way = refl
by_driver ds state.Unset way = refl
by_driver ds state.Unspecified way = refl

-- ---- drivers of one name stand at one place

one_place : (place : ℕ) (ds es : List Driver) (name : List ℕ) → AreAlike ds es → place_named place ds name ≡ place_named place es name
one_place place [] [] name alike = refl
one_place place [] (e ∷ es) name alike = absurd alike
one_place place (d ∷ ds) [] name alike = absurd alike
one_place place (d ∷ ds) (e ∷ es) name alike =
    ap (λ (n : List ℕ). if bytes_eq n name then Some place else place_named (suc place) ds name) alike.0
    ∙ ap (λ (o : Option ℕ). if bytes_eq e.name name then Some place else o) (one_place (suc place) ds es name alike.2)

filter_places : (ds es : List Driver) (s : AttrState) → AreAlike ds es → filter_place ds s ≡ filter_place es s
filter_places ds es (state.Value name) alike = one_place 0 ds es name alike
filter_places ds es state.Set alike = refl
filter_places ds es state.Unset alike = refl
filter_places ds es state.Unspecified alike = refl

-- ---- one path

module _ (law : PlacesStart) (files : AttrFiles) (drivers : List Driver) (settings : Settings) (alike : AreAlike settings.drivers drivers) (asked : List PathPlan) (e : Entry) where
  -- with this plan the path of an entry of this mode is checked in as its attributes say
  abbrev Fits : Mode → PathPlan → Type 0
  Fits m p = planned_path drivers (path_among asked p) ≡ record { path = e.path; object = e.name; way = if is_kept_start p.start then Kept else way_of_mode m files drivers settings e }

  driven : (s : AttrState) → start_of drivers (filter_place settings.drivers s) ≡ filter_start drivers s
  driven s = ap (start_of drivers) (filter_places settings.drivers drivers s alike) ∙ law drivers s

  abbrev with_way : Way → CheckinPath
  with_way way = record { path = e.path; object = e.name; way = way }

  unkept : (kept : Bool) (way : Way) → kept ≡ false → way ≡ (if kept then Kept else way)
  unkept false way is = refl
  unkept true way is = absurd cc

  by_encoding : (ident : Bool) (action : Action) (r : Result (Option Encoding) UnknownEncoding) (begin back : Start) (place : Option ℕ) → start_of drivers place ≡ back → ((way : Way) → way_for begin way ≡ way) → is_kept_start begin ≡ false
      → planned_path drivers (path_among asked (record (converted e begin (with_encoding ident action r)) { driver = place }))
      ≡ with_way (if is_kept_start (converted e begin (with_encoding ident action r)).start then Kept else encoded_way r back (λ encoding. record { driver = None; ident = ident; action = action; encoding = encoding }))
  by_encoding ident action (Err unknown) begin back place there stays unclosed = refl
  by_encoding ident action (Ok encoding) begin back place there stays unclosed =
      let storing : Storing = record { driver = None; ident = ident; action = action; encoding = encoding } in
      let way : Way = way_by (start_of drivers place) storing in
      ap with_way (by_number asked begin way ∙ stays way ∙ ap (λ (s : Start). way_by s storing) there ∙ unkept (is_kept_start begin) (way_by back storing) unclosed)

  of_file : planned_path drivers (path_among asked (file_path files settings e)) ≡ with_way (if is_kept_start (file_path files settings e).start then Kept else file_way files drivers settings e)
  of_file =
      by_encoding (is_set (state_at files e (codes "ident"))) (action_of (state_at files e (codes "text")) (state_at files e (codes "crlf")) (state_at files e (codes "eol")) settings.autocrlf settings.eol)
      (encoding_of (state_at files e (codes "working-tree-encoding"))) (filter_start settings.drivers (state_at files e (codes "filter"))) (filter_start drivers (state_at files e (codes "filter")))
      (filter_place settings.drivers (state_at files e (codes "filter"))) (driven (state_at files e (codes "filter"))) (by_driver settings.drivers (state_at files e (codes "filter"))) (by_filter settings.drivers (state_at files e (codes "filter")))

  of_text : (m : Mode) → Fits m (file_path files settings e) → Fits m (text_path files settings e)
  of_text m file = elim (is_utf8 e.path) as (λ t. Fits m (if t then file_path files settings e else closed e (verdict.Failed fail.NameNotText))) [
    | true ↦ file
    | false ↦ refl
  ]

  of_link : Fits mode.Link (link_path e)
  of_link = elim (is_utf8 e.path) as (λ t. Fits mode.Link (if t then path_with e no_conversion start.Pool else closed e (verdict.Failed fail.NameNotText))) [
    | true ↦ refl
    | false ↦ refl
  ]

  unless_out : (m : Mode) (p : PathPlan) → Fits m p → Fits m (unless_left_out e p)
  unless_out m p here = by e.sparse e.intent
    where
      by : (a b : Bool) → Fits m (if a then closed e (verdict.Skipped skip.Sparse) else if b then closed e (verdict.Skipped skip.Intent) else p)
      by true b = refl
      by false true = refl
      by false false = here

  of_mode : (m : Mode) → Fits m (path_of_mode m files settings e)
  of_mode mode.Plain = unless_out mode.Plain (text_path files settings e) (of_text mode.Plain of_file)
  of_mode mode.Executable = unless_out mode.Executable (text_path files settings e) (of_text mode.Executable of_file)
  of_mode mode.Link = unless_out mode.Link (link_path e) of_link
  of_mode mode.Gitlink = refl

  of_entry : planned_path drivers (path_among asked (asked_path files settings e)) ≡ checkin_path files drivers settings e
  of_entry = elim (e.stage == 0) as (λ t. Fits e.mode (if t then path_of_mode e.mode files settings e else closed e (verdict.Skipped skip.Unmerged))) [
    | true ↦ of_mode e.mode
    | false ↦ refl
  ]

-- ---- all of them

all_fit : PlacesStart → (files : AttrFiles) (drivers : List Driver) (settings : Settings) → AreAlike settings.drivers drivers → (asked : List PathPlan) (es : List Entry)
    → planned_paths drivers (map (path_among asked) (map (asked_path files settings) es)) ≡ map (checkin_path files drivers settings) es
all_fit law files drivers settings alike asked [] = refl
all_fit law files drivers settings alike asked (e ∷ es) =
    ap (λ (p : CheckinPath). p ∷ planned_paths drivers (map (path_among asked) (map (asked_path files settings) es))) (of_entry law files drivers settings alike asked e)
    ∙ ap (λ (ps : List CheckinPath). checkin_path files drivers settings e ∷ ps) (all_fit law files drivers settings alike asked es)

-- the paths of a plan are those of its index, by the drivers that clean
pub paths_fit : PlacesStart → (es : List Entry) (settings : Settings) (outer : OuterFiles) (contents : List (List ℕ)) (drivers : List Driver) → AreAlike settings.drivers drivers
    → planned_paths drivers (plan_of es settings outer contents).paths ≡ checkin_paths (attribute_files outer es contents) drivers settings es
paths_fit law es settings outer contents drivers alike =
    let files = attribute_files outer es contents in
    unfold plan_of in all_fit law files drivers settings alike (asked_paths files settings es) (first_entries es)
