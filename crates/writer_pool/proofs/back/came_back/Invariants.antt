use Rattle.std.proofs.Common.{◌≡◌, ◌++◌, map, vec_capacity}
use Rattle.writer_pool.specs.Jobs.{passes_in, served_in}
use Rattle.writer_pool.proofs.back.came_back.Given as goal

abbrev pub invariant-loop-end : goal.invariant-loop-end
invariant-loop-end g l = record {
  whole : l.yielded ++ l.end-iterator.rest.items ≡ l.fn.ends.items;
  passes : l.passes.items ≡ passes_in l.yielded;
  starters : l.starters.items ≡ map (λ s. s.starter) (served_in l.yielded);
  talks : l.talks.items ≡ map (λ s. s.talk) (served_in l.yielded);
  room : vec_capacity l.passes ≡ vec_capacity l.fn.room.passes;
  starter_room : vec_capacity l.starters ≡ vec_capacity l.fn.room.starters;
  talk_room : vec_capacity l.talks ≡ vec_capacity l.fn.room.talks;
  can : (goal.iterator-loop-end g).can_next l.end-iterator;
  ends : (goal.iterator-loop-end g).is_finite l.end-iterator;
}
