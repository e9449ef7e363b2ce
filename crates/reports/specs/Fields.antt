-- Rows as values.
use Rattle.std.specs.Prelude.{ℕ, Bool, List}
use Rattle.reports.specs.declared.row.Cell.{Cell}
use Rattle.reports.specs.declared.row.CellValue.{CellValue}
use Rattle.reports.specs.declared.row.CellValue.TheVariants as cell
use Rattle.reports.specs.declared.row.Count.{Count}

-- what a cell shows: a word, none, a word that stands where a flag is set, or a name of any bytes
pub data Shown : Type 0 where
  word : List ℕ → Shown
  absent : Shown
  flag : List ℕ → Bool → Shown
  name : List ℕ → Shown

-- what a cell shows, with its key
pub record Field : Type 0 where
  pub key : List ℕ
  pub shows : Shown

-- a number with its key
pub record Number : Type 0 where
  pub key : List ℕ
  pub number : ℕ

abbrev pub field : List ℕ → Shown → Field
field k s = record { key = k; shows = s }

abbrev pub numbered : List ℕ → ℕ → Number
numbered k n = record { key = k; number = n }

abbrev pub shown : CellValue → Shown
shown (cell.Word w) = word w.now
shown cell.Absent = absent
shown (cell.Flag w is_set) = flag w.now is_set
shown (cell.Name n) = name n.now

abbrev pub field_of : Cell → Field
field_of c = field c.key.now (shown c.value)

abbrev pub number_of : Count → Number
number_of c = numbered c.key.now c.number
