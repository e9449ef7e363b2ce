use Rattle.std.proofs.Common.{◌≡◌, ◌≤◌, ◌++◌, length}
use Rattle.std.specs.Vec.{vec_capacity}
use Rattle.checkout_book.specs.Ending.{parts_in}
use Rattle.checkout_book.proofs.ended.ended_parts.Given as goal

abbrev pub invariant-loop-slot : goal.invariant-loop-slot
invariant-loop-slot g l = record {
  whole : l.yielded ++ l.slot-iterator.rest.items ≡ l.fn.slots.items;
  parts : l.parts.items ≡ parts_in l.yielded;
  few : length l.parts.items ≤ length l.yielded;
  room : vec_capacity l.parts ≡ vec_capacity l.fn.parts;
  can : (goal.iterator-loop-slot g).can_next l.slot-iterator;
  ends : (goal.iterator-loop-slot g).is_finite l.slot-iterator;
}
