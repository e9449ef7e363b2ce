use Rattle.std.proofs.Common.{◌≡◌, ◌++◌}
use Rattle.checkout_book.specs.Reserving.{placed}
use Rattle.checkout_book.proofs.reserved_cards.place.Given as goal

abbrev pub invariant-loop-card : goal.invariant-loop-card
invariant-loop-card g l = record {
  slots : l.slots.items ≡ placed l.fn.slots.items l.yielded;
  whole : l.yielded ++ l.card-iterator.rest.items ≡ l.fn.pool.items;
  can : (goal.iterator-loop-card g).can_next l.card-iterator;
  ends : (goal.iterator-loop-card g).is_finite l.card-iterator;
}
