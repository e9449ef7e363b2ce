use Rattle.std.proofs.Common.{◌≡◌, ◌++◌, map}
use Rattle.writer_pool.specs.Dealing.{head_of}
use Rattle.writer_pool.proofs.desks.take_apart.Given as goal

abbrev pub invariant-loop-seed : goal.invariant-loop-seed
invariant-loop-seed g l = record {
  whole : l.yielded ++ l.seed-iterator.rest.items ≡ l.fn.seeds.items;
  heads : l.heads.items ≡ map (λ x. head_of x) l.yielded;
  cards : l.decks.items ≡ map (λ x. x.cards) l.yielded;
  can : (goal.iterator-loop-seed g).can_next l.seed-iterator;
  ends : (goal.iterator-loop-seed g).is_finite l.seed-iterator;
}
