use Rattle.std.proofs.Common.{take, map}
use Rattle.reports.specs.Fields.{number_of}
use Rattle.reports.specs.Objects.{Appends, numbers_members}
use Rattle.reports.proofs.object.push_counts.Given as goal

abbrev pub invariant-loop-count : goal.invariant-loop-count
invariant-loop-count l = Appends (numbers_members (map number_of (take l.count-index l.counts))) l.initial.writer l.writer
