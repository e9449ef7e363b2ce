-- The text of a plan.
use Rattle.std.specs.Prelude.{ℕ, Bool, true, false, List, [], ◌∷◌, ◌++◌, slice_get, codes}
use Rattle.std.specs.Prelude.{Option, Some, None}
use Rattle.std.specs.List.{flat_map}
use Rattle.std.specs.Fmt.{decimal}
use Rattle.byte_path.specs.Quote.{quoted}
use Rattle.checkout_core.specs.declared.path.Start.{Start}
use Rattle.checkout_core.specs.declared.path.Start.TheVariants as start
use Rattle.checkout_report.specs.Report.{cause_of, mark_word}
use Rattle.eol_convert.specs.Action.{ends_of}
use Rattle.eol_convert.specs.declared.action.Action.TheVariants.{Binary}
use Rattle.eol_convert.specs.declared.setting.LineEnds.{LineEnds}
use Rattle.eol_convert.specs.declared.setting.LineEnds.TheVariants.{Keep, ToCrlf, AutoCrlf}
use Rattle.tree_encoding.specs.declared.encoding.Encoding.{Encoding}
use Rattle.tree_encoding.specs.Named.{encoding_name}
use Rattle.convert_plan.specs.declared.conversion.Conversion.{Conversion}
use Rattle.settings_view.specs.declared.view.Driver.{Driver}
use Rattle.checkout_plan.specs.declared.path_plan.PathPlan.{PathPlan}
use Rattle.checkout_plan.specs.declared.path_plan.Plan.{Plan}
use Rattle.byte_path.specs.Characters.{space, line_feed}

-- a path that is read and written, or why the plan closes it
abbrev pub state_word : Start → List ℕ
state_word (start.Done v) = cause_of v
state_word start.Pool = codes "card"
state_word (start.Desk driver required) = codes "card"

abbrev pub ends_word : LineEnds → List ℕ
ends_word Keep = codes "-"
ends_word ToCrlf = codes "crlf"
ends_word AutoCrlf = codes "auto-crlf"

abbrev pub ident_word : Bool → List ℕ
ident_word true = codes "ident"
ident_word false = codes "-"

abbrev pub encoding_word : Option Encoding → List ℕ
encoding_word None = codes "-"
encoding_word (Some encoding) = encoding_name encoding

-- whether the path's driver is required
abbrev pub need_word : Start → List ℕ
need_word (start.Desk driver true) = codes "required"
need_word (start.Desk driver false) = codes "optional"
need_word start.Pool = codes "-"
need_word (start.Done v) = codes "-"

abbrev pub name_of : Option Driver → List ℕ
name_of None = []
name_of (Some d) = d.name

-- the name of the driver at this place
abbrev pub driver_name : List Driver → ℕ → List ℕ
driver_name drivers place = name_of (slice_get drivers place)

-- the name of the path's driver, quoted as a path is
abbrev pub driver_word : List Driver → Start → List ℕ
driver_word drivers (start.Desk driver required) = quoted (driver_name drivers driver)
driver_word drivers start.Pool = codes "-"
driver_word drivers (start.Done v) = codes "-"

-- line ends, ident and encoding
abbrev pub conversion_words : Conversion → List ℕ
conversion_words c = ends_word (ends_of c.action) ++ space ∷ ident_word c.ident ++ space ∷ encoding_word c.encoding

-- what is shown of a path's conversion: one that the plan closes isn't converted
abbrev pub shown_conversion : Start → Conversion → Conversion
shown_conversion (start.Done v) c = record { ident = false; action = Binary; encoding = None }
shown_conversion start.Pool c = c
shown_conversion (start.Desk driver required) c = c

-- the columns before the driver: state, mark, the three of the conversion, and need, with a space
-- after each
abbrev pub front_of : PathPlan → List ℕ
front_of p =
    state_word p.start ++ (space ∷ (mark_word p.mark
    ++ (space ∷ (conversion_words (shown_conversion p.start p.conversion) ++ (space ∷ (need_word p.start ++ space ∷ []))))))

-- the line of a path: these columns, the driver and the path
abbrev pub line_of : List Driver → PathPlan → List ℕ
line_of drivers p = front_of p ++ (driver_word drivers p.start ++ (space ∷ (quoted p.path ++ line_feed ∷ [])))

-- how many attribute lines were skipped
abbrev pub last_line : ℕ → List ℕ
last_line skipped = codes "skipped-lines " ++ (decimal skipped ++ line_feed ∷ [])

-- a line for each path, in order, and the last
abbrev pub plan_lines : Plan → List ℕ
plan_lines plan = flat_map (line_of plan.drivers) plan.paths ++ last_line plan.skipped_lines
