use Rattle.std.proofs.Common.{◌≡◌}
use Rattle.checkout_book.specs.Reserving.{aways}
use Rattle.checkout_book.proofs.reserved_cards.all_away.Given as goal

abbrev pub invariant-loop-at : goal.invariant-loop-at
invariant-loop-at g l = l.slots.items ≡ aways l._at
