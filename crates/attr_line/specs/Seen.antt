-- The reader's own values and steps, as the definitions see them.
use Rattle.std.specs.Prelude.{ℕ, ◌+◌, min}
use Rattle.attr_line.specs.declared.file.Skipped.{Skipped}
use Rattle.attr_line.specs.declared.line.Front.{Front}
use Rattle.attr_line.specs.declared.outcome.Outcome.{Outcome}
use Rattle.attr_line.specs.declared.outcome.Outcome.TheVariants.{Nothing, Row, Skip}
use Rattle.attr_line.specs.declared.outcome.LineFault.{LineFault}
use Rattle.attr_line.specs.declared.outcome.LineFault.TheVariants.{Long, Negative, Name, Place}
use Rattle.attr_line.specs.Line.{Head}

abbrev pub head_of : Front → Head
head_of front = record { pattern = front.pattern; quoted = front.quoted; rest = front.rest.now }

-- one more, up to 4,294,967,295
abbrev pub one_more : ℕ → ℕ
one_more count = min (count + 1) 4294967295

-- the counts with one line more
abbrev pub with_fault : Skipped → LineFault → Skipped
with_fault skipped Long = record skipped { long = one_more skipped.long }
with_fault skipped Negative = record skipped { negative = one_more skipped.negative }
with_fault skipped Name = record skipped { name = one_more skipped.name }
with_fault skipped Place = record skipped { place = one_more skipped.place }

abbrev pub with_outcome : Skipped → Outcome → Skipped
with_outcome skipped Nothing = skipped
with_outcome skipped (Row row) = skipped
with_outcome skipped (Skip fault) = with_fault skipped fault
