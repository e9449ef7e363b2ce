use Rattle.std.proofs.Common.{◌≡◌, take, map}
use Rattle.reports.specs.Fields.{field_of}
use Rattle.reports.specs.Lines.{front_of}
use Rattle.reports.proofs.line.front_of.Given as goal

abbrev pub invariant-loop-cell : goal.invariant-loop-cell
invariant-loop-cell l = l.text.items ≡ front_of (map field_of (take l.cell-index l.cells))
