use Rattle.std.proofs.Common.{◌≡◌, ◌+◌, ◌++◌, length, map}
use Rattle.edge_kit.specs.Starters.{starter_back}
use Rattle.checkout_paths.proofs.given_back.give_starters.Given as goal

abbrev pub invariant-loop-starter : goal.invariant-loop-starter
invariant-loop-starter g l = record {
  whole : l.yielded ++ l.starter-iterator.rest.items ≡ l.fn.starters.items;
  told : g.P.Spawner.told l.spawner ≡ g.P.Spawner.told l.initial.spawner;
  out : (g.P.Spawner.seen l.spawner).out + length l.yielded ≡ (g.P.Spawner.seen l.initial.spawner).out;
  back : g.P.Spawner.seen l.spawner ≡ record (g.P.Spawner.seen l.initial.spawner) {
    out = (g.P.Spawner.seen l.spawner).out;
    returned = (g.P.Spawner.seen l.initial.spawner).returned ++ map (λ b. starter_back (g.P.Starter.Starter.seen b)) l.yielded;
  };
  can : (goal.iterator-loop-starter g).can_next l.starter-iterator;
  ends : (goal.iterator-loop-starter g).is_finite l.starter-iterator;
}
