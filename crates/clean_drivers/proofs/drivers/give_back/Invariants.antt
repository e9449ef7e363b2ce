use Rattle.std.proofs.Common.{◌≡◌, ◌+◌}
use Rattle.edge_kit.specs.Starters.{SpawnerSeen}
use Rattle.clean_drivers.specs.Drivers.{lines_out, GivesBack}
use Rattle.clean_drivers.proofs.drivers.give_back.Given as goal

abbrev pub invariant-loop-line : goal.invariant-loop-line
invariant-loop-line g l = record {
  rest : (last : SpawnerSeen) → GivesBack l.line-iterator.rest.items (g.P.Spawner.seen l.spawner) last
      → GivesBack l.fn.drivers.lines (g.P.Spawner.seen l.initial.spawner) last;
  told : g.P.Spawner.told l.spawner ≡ g.P.Spawner.told l.initial.spawner;
  out : (g.P.Spawner.seen l.spawner).out + lines_out l.fn.drivers.lines
      ≡ (g.P.Spawner.seen l.initial.spawner).out + lines_out l.line-iterator.rest.items;
  can : (goal.iterator-loop-line g).can_next l.line-iterator;
  ends : (goal.iterator-loop-line g).is_finite l.line-iterator;
}
