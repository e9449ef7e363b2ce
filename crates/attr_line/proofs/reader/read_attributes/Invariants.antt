use Rattle.std.proofs.Common.{map}
use Rattle.attr_line.specs.Line.{line_outcome}
use Rattle.attr_line.specs.File.{outcomes_at}
use Rattle.attr_line.proofs.Taking.{IsReading}
use Rattle.attr_line.proofs.reader.read_attributes.Given as goal

abbrev pub invariant-lines : goal.invariant-lines
invariant-lines l = IsReading (outcomes_at l.file l.top) l.reader.rows.items l.reader.skipped (map (line_outcome l.top) l.line-iterator)
