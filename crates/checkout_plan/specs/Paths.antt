-- What becomes of each path of an index.
use Rattle.std.specs.Prelude.{ℕ, zero, suc, Bool, true, false, ◌==◌, List, [], ◌∷◌, map, codes}
use Rattle.std.specs.Prelude.{◌≡◌, slice_get, Option, Some, None, Result, Ok, Err, if◌then◌else◌}
use Rattle.std.specs.List.{list_any, AllByRecursion}
use Rattle.std.specs.Str.{bytes_eq, is_utf8}
use Rattle.edge_kit.specs.declared.leaf_state.Mark.{Mark}
use Rattle.edge_kit.specs.declared.leaf_state.Mark.TheVariants as mark
use Rattle.git_index.specs.declared.entry.Entry.{Entry}
use Rattle.git_index.specs.declared.entry.Mode.{Mode}
use Rattle.git_index.specs.declared.entry.Mode.TheVariants as mode
use Rattle.attr_line.specs.declared.state.AttrState.{AttrState}
use Rattle.attr_line.specs.declared.state.AttrState.TheVariants as state
use Rattle.attr_stack.specs.declared.files.OuterFiles.{OuterFiles}
use Rattle.attr_stack.specs.declared.files.AttrFiles.{AttrFiles}
use Rattle.attr_stack.specs.Decided.{state_of}
use Rattle.eol_convert.specs.declared.action.Action.TheVariants.{Binary}
use Rattle.tree_encoding.specs.declared.encoding.UnknownEncoding.{UnknownEncoding}
use Rattle.convert_plan.specs.declared.conversion.Conversion.{Conversion}
use Rattle.convert_plan.specs.Conversion.{conversion_of}
use Rattle.checkout_core.specs.declared.verdict.Verdict.{Verdict}
use Rattle.checkout_core.specs.declared.verdict.Verdict.TheVariants as verdict
use Rattle.checkout_core.specs.declared.verdict.FailCause.TheVariants as fail
use Rattle.checkout_core.specs.declared.verdict.SkipCause.TheVariants as skip
use Rattle.checkout_core.specs.declared.path.Start.{Start}
use Rattle.checkout_core.specs.declared.path.Start.TheVariants as start
use Rattle.settings_view.specs.declared.view.Driver.{Driver}
use Rattle.settings_view.specs.declared.view.Settings.{Settings}
use Rattle.checkout_plan.specs.declared.path_plan.PathPlan.{PathPlan}
use Rattle.checkout_plan.specs.declared.path_plan.Plan.{Plan}
use Rattle.checkout_plan.specs.AttributeFiles.{attribute_files, skipped_lines}

-- how the report marks a file of this mode
abbrev pub mark_of : Mode → Mark
mark_of mode.Plain = mark.Plain
mark_of mode.Executable = mark.Executable
mark_of mode.Link = mark.LinkText
mark_of mode.Gitlink = mark.Plain

-- nothing is done to a content
abbrev pub no_conversion : Conversion
no_conversion = record { ident = false; action = Binary; encoding = None }

abbrev pub path_with : Entry → Conversion → Start → PathPlan
path_with e conversion start = record {
  path = e.path;
  object = e.name;
  mark = mark_of e.mode;
  conversion = conversion;
  start = start;
  driver = None;
}

-- a path whose verdict stands before anything is read
abbrev pub closed : Entry → Verdict → PathPlan
closed e v = path_with e no_conversion (start.Done v)

-- the attributes that a conversion asks for, in its order
abbrev pub conversion_names : List (List ℕ)
conversion_names = codes "text" ∷ codes "crlf" ∷ codes "eol" ∷ codes "ident" ∷ codes "working-tree-encoding" ∷ []

-- by the command that serves it and whether it is required: a required driver needs a command
abbrev pub start_by : ℕ → Option (List ℕ) → Bool → Start
start_by place (Some process) required = start.Desk place required
start_by place None true = start.Done (verdict.Failed fail.NoProcess)
start_by place None false = start.Pool

-- how a path begins whose filter is that driver, which stands at that place among the drivers of the settings
abbrev pub start_at : ℕ → Driver → Start
start_at place d = start_by place d.process d.required

-- the same for the driver with that name, from that place on; a name of no driver is no filter
abbrev pub start_named : ℕ → List Driver → List ℕ → Start
start_named place [] name = start.Pool
start_named place (d ∷ ds) name = if bytes_eq d.name name then start_at place d else start_named (suc place) ds name

-- how a path begins by the state of its `filter`
abbrev pub filter_start : List Driver → AttrState → Start
filter_start drivers (state.Value name) = start_named 0 drivers name
filter_start drivers s = start.Pool

-- the place of the driver with that name, from that place on
abbrev pub place_named : ℕ → List Driver → List ℕ → Option ℕ
place_named place [] name = None
place_named place (d ∷ ds) name = if bytes_eq d.name name then Some place else place_named (suc place) ds name

-- the place of a path's driver among those of the settings, by the state of its `filter`
abbrev pub filter_place : List Driver → AttrState → Option ℕ
filter_place drivers (state.Value name) = place_named 0 drivers name
filter_place drivers s = None

-- how a path begins whose driver stands at that place, if it has one
abbrev pub start_in : ℕ → Option Driver → Start
start_in place None = start.Pool
start_in place (Some d) = start_at place d

abbrev pub start_of : List Driver → Option ℕ → Start
start_of drivers None = start.Pool
start_of drivers (Some place) = start_in place (slice_get drivers place)

-- How a path begins by its `filter` is how it begins by the place of its driver.
abbrev pub PlacesStart : Type 0
PlacesStart = (drivers : List Driver) (s : AttrState)
    → start_of drivers (filter_place drivers s) ≡ filter_start drivers s

-- an unknown encoding stands before a filter that is missing
abbrev pub converted : Entry → Start → Result Conversion UnknownEncoding → PathPlan
converted e begin (Ok conversion) = path_with e conversion begin
converted e begin (Err unknown) = closed e (verdict.Failed fail.UnknownEncoding)

-- a file by the states of its attributes
abbrev pub file_path : AttrFiles → Settings → Entry → PathPlan
file_path files settings e = record
    (converted e (filter_start settings.drivers (state_of files e.path (codes "filter")))
    (conversion_of (map (state_of files e.path) conversion_names) settings.autocrlf settings.eol))
    { driver = filter_place settings.drivers (state_of files e.path (codes "filter")) }

-- a path that isn't UTF-8 has no file
abbrev pub text_path : AttrFiles → Settings → Entry → PathPlan
text_path files settings e =
    if is_utf8 e.path then file_path files settings e else closed e (verdict.Failed fail.NameNotText)

-- a link's text is written as it is
abbrev pub link_path : Entry → PathPlan
link_path e =
    if is_utf8 e.path then path_with e no_conversion start.Pool
    else closed e (verdict.Failed fail.NameNotText)

-- a path that its index entry leaves out: in a sparse checkout, or since it has no content yet
abbrev pub unless_left_out : Entry → PathPlan → PathPlan
unless_left_out e p =
    if e.sparse then closed e (verdict.Skipped skip.Sparse)
    else if e.intent then closed e (verdict.Skipped skip.Intent)
    else p

abbrev pub path_of_mode : Mode → AttrFiles → Settings → Entry → PathPlan
path_of_mode mode.Plain files settings e = unless_left_out e (text_path files settings e)
path_of_mode mode.Executable files settings e = unless_left_out e (text_path files settings e)
path_of_mode mode.Link files settings e = unless_left_out e (link_path e)
path_of_mode mode.Gitlink files settings e = closed e (verdict.Skipped skip.Gitlink)

-- the path of an entry with the lowest stage, with its driver numbered among all those of the settings
abbrev pub asked_path : AttrFiles → Settings → Entry → PathPlan
asked_path files settings e =
    if e.stage == 0 then path_of_mode e.mode files settings e
    else closed e (verdict.Skipped skip.Unmerged)

-- the entries whose path isn't that of the one before
abbrev pub first_entries_after : List ℕ → List Entry → List Entry
first_entries_after before [] = []
first_entries_after before (e ∷ es) =
    if bytes_eq e.path before then first_entries_after before es
    else e ∷ first_entries_after e.path es

-- One entry for each distinct path of an index, that with the lowest stage. No path is empty, so the
-- first entry is always one.
abbrev pub first_entries : List Entry → List Entry
first_entries es = first_entries_after [] es

abbrev pub asked_paths : AttrFiles → Settings → List Entry → List PathPlan
asked_paths files settings es = map (asked_path files settings) (first_entries es)

-- whether a path asks for the driver at that place
abbrev pub is_desk_of : ℕ → Start → Bool
is_desk_of place (start.Desk d required) = d == place
is_desk_of place s = false

abbrev pub asks_for : ℕ → PathPlan → Bool
asks_for place p = is_desk_of place p.start

abbrev pub is_used : List PathPlan → ℕ → Bool
is_used paths place = list_any (asks_for place) paths

-- the drivers that some path asks for, from that place on
abbrev pub used_from : ℕ → List PathPlan → List Driver → List Driver
used_from place paths [] = []
used_from place paths (d ∷ ds) =
    if is_used paths place then d ∷ used_from (suc place) paths ds
    else used_from (suc place) paths ds

-- how many drivers before that place are used: a driver's number among those in use
abbrev pub number_at : List PathPlan → ℕ → ℕ
number_at paths zero = 0
number_at paths (suc place) = if is_used paths place then suc (number_at paths place) else number_at paths place

abbrev pub start_among : List PathPlan → Start → Start
start_among paths (start.Desk place required) = start.Desk (number_at paths place) required
start_among paths s = s

-- a path with its driver numbered among those in use
abbrev pub path_among : List PathPlan → PathPlan → PathPlan
path_among paths p = record p { start = start_among paths p.start }

-- the plan of these entries, if these attribute files reach them
abbrev pub plan_with : AttrFiles → List PathPlan → Settings → Plan
plan_with files asked settings = record {
  paths = map (path_among asked) asked;
  drivers = used_from 0 asked settings.drivers;
  skipped_lines = skipped_lines files;
}

abbrev pub plan_by : AttrFiles → Settings → List Entry → Plan
plan_by files settings es = plan_with files (asked_paths files settings es) settings

-- The plan of an index, from its entries, the settings, the attribute files outside it, and the contents
-- of its own.
unfoldable pub plan_of : List Entry → Settings → OuterFiles → List (List ℕ) → Plan
plan_of es settings outer contents = plan_by (attribute_files outer es contents) settings es

-- a path that the plan closes is skipped, or fails for one of three causes
abbrev pub HasCause : Start → Type 0
HasCause (start.Done (verdict.Skipped cause)) = Unit {0}
HasCause (start.Done (verdict.Failed fail.NameNotText)) = Unit {0}
HasCause (start.Done (verdict.Failed fail.UnknownEncoding)) = Unit {0}
HasCause (start.Done (verdict.Failed fail.NoProcess)) = Unit {0}
HasCause (start.Done v) = ⊥
HasCause s = Unit {0}

-- No path that a plan closes has a file.
abbrev pub ClosedPathsHaveCauses : Type 0
ClosedPathsHaveCauses = (es : List Entry) (settings : Settings) (outer : OuterFiles)
    (contents : List (List ℕ))
    → AllByRecursion (λ p. HasCause p.start) (plan_of es settings outer contents).paths
