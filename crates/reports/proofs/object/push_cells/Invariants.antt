use Rattle.std.proofs.Common.{take, map}
use Rattle.reports.specs.Fields.{field_of}
use Rattle.reports.specs.Objects.{Appends, members_of}
use Rattle.reports.proofs.object.push_cells.Given as goal

abbrev pub invariant-loop-cell : goal.invariant-loop-cell
invariant-loop-cell l = Appends (members_of (map field_of (take l.cell-index l.cells))) l.initial.writer l.writer
