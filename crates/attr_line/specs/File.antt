-- What an attribute file says, by its lines.
use Rattle.std.specs.Prelude.{ℕ, Bool, true, false, List, map, count_by, min, Option, Some, None}
use Rattle.std.specs.List.{filter_map}
use Rattle.bstr.specs.Text.{lines_of, without_terminator}
use Rattle.byte_path.specs.Front.{unmarked}
use Rattle.attr_line.specs.declared.file.AttrRow.{AttrRow}
use Rattle.attr_line.specs.declared.file.Skipped.{Skipped}
use Rattle.attr_line.specs.declared.file.AttrFile.{AttrFile}
use Rattle.attr_line.specs.declared.outcome.Outcome.{Outcome}
use Rattle.attr_line.specs.declared.outcome.Outcome.TheVariants.{Nothing, Row, Skip}
use Rattle.attr_line.specs.declared.outcome.LineFault.TheVariants.{Long, Negative, Name, Place}
use Rattle.attr_line.specs.Line.{line_outcome}

-- A line ends at LF or at the end of the file. One CR right before the LF goes with it.
abbrev pub outcomes_at : List ℕ → Bool → List Outcome
outcomes_at file top = map (line_outcome top) (map without_terminator (lines_of (unmarked file)))

abbrev pub row_of : Outcome → Option AttrRow
row_of Nothing = None
row_of (Row row) = Some row
row_of (Skip fault) = None

abbrev pub is_long : Outcome → Bool
is_long (Skip Long) = true
is_long _ = false

abbrev pub is_negative : Outcome → Bool
is_negative (Skip Negative) = true
is_negative _ = false

abbrev pub is_bad_name : Outcome → Bool
is_bad_name (Skip Name) = true
is_bad_name _ = false

abbrev pub is_bad_place : Outcome → Bool
is_bad_place (Skip Place) = true
is_bad_place _ = false

-- how many there are, up to 4,294,967,295
abbrev pub counted : (Outcome → Bool) → List Outcome → ℕ
counted test outcomes = min (count_by test outcomes) 4294967295

abbrev pub skipped_of : List Outcome → Skipped
skipped_of outcomes = record {
  long = counted is_long outcomes;
  negative = counted is_negative outcomes;
  name = counted is_bad_name outcomes;
  place = counted is_bad_place outcomes;
}

abbrev pub file_of : List Outcome → AttrFile
file_of outcomes = record { rows = filter_map row_of outcomes; skipped = skipped_of outcomes }

-- the rows of an attribute file in the order of its lines, and how many lines were skipped
unfoldable pub attributes_at : List ℕ → Bool → AttrFile
attributes_at file top = file_of (outcomes_at file top)
