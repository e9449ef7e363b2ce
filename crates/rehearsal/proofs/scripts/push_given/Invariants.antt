use Rattle.std.proofs.Common.{◌≡◌, ◌++◌, take}
use Rattle.std.specs.Prelude.{codes}
use Rattle.std.specs.List.{flat_map}
use Rattle.rehearsal.specs.Drivers.{filtered}
use Rattle.rehearsal.proofs.scripts.push_given.Given as goal

abbrev pub invariant-loop-number : goal.invariant-loop-number
invariant-loop-number l =
    l.out.items ≡ l.initial.out.items
    ++ flat_map (filtered (codes "alpha") l.seed) (take l.number-index l.numbers)
