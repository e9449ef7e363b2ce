use Rattle.std.proofs.Common.{◌≡◌, ◌++◌, map, vec_capacity}
use Rattle.writer_pool.proofs.pool_end.apart.Given as goal

abbrev pub invariant-loop-part : goal.invariant-loop-part
invariant-loop-part g l = record {
  whole : l.yielded ++ l.part-iterator.rest.items ≡ l.fn.parts.items;
  blobs : l.blobs.items ≡ map (λ x. x.0) l.yielded;
  leaves : l.leaves.items ≡ map (λ x. x.1) l.yielded;
  room : vec_capacity l.blobs ≡ vec_capacity l.fn.blobs;
  leaf_room : vec_capacity l.leaves ≡ vec_capacity l.fn.leaves;
  can : (goal.iterator-loop-part g).can_next l.part-iterator;
  ends : (goal.iterator-loop-part g).is_finite l.part-iterator;
}
