use Rattle.std.proofs.Common.{◌≡◌, ◌+◌, ◌++◌, length, map}
use Rattle.checkout_book.proofs.reserved_cards.deal.Given as goal

abbrev pub invariant-loop-cards : goal.invariant-loop-cards
invariant-loop-cards g l = record {
  passes : l.passes.items ++ map (λ x. x.0) l.dealt.items ≡ l.fn.passes.items;
  cards : l.desks.items ++ map (λ x. x.1) l.dealt.items ≡ l.fn.desks.items;
  count : length l.passes.items + length l.fn.desks.items ≡ length l.fn.passes.items + length l.desks.items;
}

abbrev pub decreases-loop-cards : goal.decreases-loop-cards
decreases-loop-cards g l = length l.desks.items
