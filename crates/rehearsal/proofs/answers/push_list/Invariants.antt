use Rattle.std.proofs.Common.{◌≡◌, ◌++◌, take, map}
use Rattle.pkt_line.specs.Spelling.{spelling_all}
use Rattle.rehearsal.specs.Drivers.{pathname}
use Rattle.rehearsal.proofs.answers.push_list.Given as goal

abbrev pub invariant-loop-number : goal.invariant-loop-number
invariant-loop-number l =
    l.out.items ≡ l.initial.out.items ++ spelling_all (map (pathname l.seed) (take l.number-index l.numbers))
