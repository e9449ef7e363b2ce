use Rattle.std.proofs.Common.{◌≡◌, ◌++◌, take, map}
use Rattle.reports.specs.Fields.{number_of}
use Rattle.reports.specs.Lines.{numbers_of}
use Rattle.reports.proofs.line.total_line.Given as goal

abbrev pub invariant-loop-count : goal.invariant-loop-count
invariant-loop-count l = l.text.items ≡ l.word ++ numbers_of (map number_of (take l.count-index l.counts))
