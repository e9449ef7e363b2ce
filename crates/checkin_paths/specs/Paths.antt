-- What is done with each path of an index.
use Rattle.std.specs.Prelude.{◌≡◌, ℕ, Bool, true, false, List, map, codes, Option, Some, None, Result, Ok, Err}
use Rattle.std.specs.Prelude.{if◌then◌else◌}
use Rattle.edge_kit.specs.Told.{RepoTold}
use Rattle.git_index.specs.declared.entry.Entry.{Entry}
use Rattle.git_index.specs.declared.entry.Mode.{Mode}
use Rattle.git_index.specs.declared.entry.Mode.TheVariants as mode
use Rattle.attr_line.specs.declared.state.AttrState.{AttrState}
use Rattle.attr_stack.specs.declared.files.AttrFiles.{AttrFiles}
use Rattle.attr_stack.specs.Decided.{state_of}
use Rattle.eol_convert.specs.Action.{action_of}
use Rattle.eol_convert.specs.declared.action.Action.TheVariants.{Binary}
use Rattle.tree_encoding.specs.declared.encoding.Encoding.{Encoding}
use Rattle.tree_encoding.specs.declared.encoding.UnknownEncoding.{UnknownEncoding}
use Rattle.tree_encoding.specs.Named.{encoding_of}
use Rattle.convert_plan.specs.Conversion.{is_set}
use Rattle.checkout_core.specs.declared.path.Start.{Start}
use Rattle.checkout_core.specs.declared.path.Start.TheVariants as start
use Rattle.checkout_core.specs.declared.verdict.Verdict.TheVariants as verdict
use Rattle.checkout_core.specs.declared.verdict.FailCause.TheVariants as fail
use Rattle.checkout_sources.specs.declared.planned_index.PlannedIndex.{PlannedIndex}
use Rattle.checkout_sources.specs.PlannedIndex.{HasPlannedIndex}
use Rattle.settings_view.specs.Drivers.{drivers_told}
use Rattle.settings_view.specs.declared.drivers.SingleRun.TheVariants.{Clean}
use Rattle.settings_view.specs.declared.view.Driver.{Driver}
use Rattle.settings_view.specs.declared.view.Settings.{Settings}
use Rattle.checkout_plan.specs.AttributeFiles.{attribute_files}
use Rattle.checkout_plan.specs.Paths.{asked_path, filter_start, first_entries}
use Rattle.checkin_paths.specs.declared.path.Storing.{Storing}
use Rattle.checkin_paths.specs.declared.path.Way.{Way}
use Rattle.checkin_paths.specs.declared.path.Way.TheVariants.{Kept, UnknownEncoding as Unknown, NoProcess}
use Rattle.checkin_paths.specs.declared.path.Way.TheVariants.{Stored}
use Rattle.checkin_paths.specs.declared.path.CheckinPath.{CheckinPath}

-- a path that begins like this is closed, since a checkout skips it or its name isn't text
abbrev pub is_kept_start : Start → Bool
is_kept_start (start.Done (verdict.Skipped cause)) = true
is_kept_start (start.Done (verdict.Failed fail.NameNotText)) = true
is_kept_start s = false

-- the plan of a checkout closes the path of an entry so
abbrev pub is_kept : AttrFiles → Settings → Entry → Bool
is_kept files settings e = is_kept_start (asked_path files settings e).start

-- the states of a path's attributes
abbrev pub state_at : AttrFiles → Entry → List ℕ → AttrState
state_at files e name = state_of files e.path name

-- How a path begins by its driver decides: one that is required and has no way fails it, and one that has a way cleans
-- its content.
abbrev pub way_by : Start → Storing → Way
way_by (start.Done v) storing = NoProcess
way_by start.Pool storing = Stored storing
way_by (start.Desk place required) storing =
    Stored (record storing { driver = Some (record { place = place; required = required }) })

-- an unknown encoding goes before a driver
abbrev pub encoded_way : Result (Option Encoding) UnknownEncoding → Start → (Option Encoding → Storing) → Way
encoded_way (Err unknown) begin storing = Unknown
encoded_way (Ok encoding) begin storing = way_by begin (storing encoding)

-- what is done with a file, by its attributes and by the drivers that clean
abbrev pub file_way : AttrFiles → List Driver → Settings → Entry → Way
file_way files drivers settings e =
    encoded_way (encoding_of (state_at files e (codes "working-tree-encoding")))
    (filter_start drivers (state_at files e (codes "filter")))
    (λ encoding. record {
      driver = None;
      ident = is_set (state_at files e (codes "ident"));
      action = action_of (state_at files e (codes "text")) (state_at files e (codes "crlf"))
          (state_at files e (codes "eol")) settings.autocrlf settings.eol;
      encoding = encoding;
    })

-- the bytes alone
abbrev pub as_it_is : Storing
as_it_is = record { driver = None; ident = false; action = Binary; encoding = None }

-- a link's text is stored as it is
abbrev pub way_of_mode : Mode → AttrFiles → List Driver → Settings → Entry → Way
way_of_mode mode.Link files drivers settings e = Stored as_it_is
way_of_mode mode.Plain files drivers settings e = file_way files drivers settings e
way_of_mode mode.Executable files drivers settings e = file_way files drivers settings e
way_of_mode mode.Gitlink files drivers settings e = Kept

abbrev pub way_of : AttrFiles → List Driver → Settings → Entry → Way
way_of files drivers settings e =
    if is_kept files settings e then Kept else way_of_mode e.mode files drivers settings e

-- the path of an entry with the lowest stage
abbrev pub checkin_path : AttrFiles → List Driver → Settings → Entry → CheckinPath
checkin_path files drivers settings e =
    record { path = e.path; object = e.name; way = way_of files drivers settings e }

-- one path for each distinct path of an index, in order
abbrev pub checkin_paths : AttrFiles → List Driver → Settings → List Entry → List CheckinPath
checkin_paths files drivers settings es = map (checkin_path files drivers settings) (first_entries es)

-- The repository has this index, and these are the paths of it. The drivers that clean are those of its configuration:
-- each by its `process`, or else by its `clean`.
pub record HasPaths (told : RepoTold) (drivers : List Driver) (es : List Entry) (ps : List CheckinPath) : Type 0 where
  pub planned : PlannedIndex
  pub has : HasPlannedIndex told planned
  pub cleaning : drivers_told Clean planned.config ≡ Ok drivers
  pub entries : es ≡ planned.index
  pub paths : ps ≡ checkin_paths (attribute_files has.outer planned.index has.made.contents) drivers has.settings
      planned.index
