use Rattle.std.proofs.Common.{◌≡◌, ◌++◌, length}
use Rattle.checkout_book.specs.Sights.{sight}
use Rattle.card_worker.specs.Fews.{items, items_from}
use Rattle.card_worker.specs.Holding.{Shift, IsHand, IsInHand}
use Rattle.card_worker.proofs.hand.Hand.close_all.Given as goal

abbrev pub invariant-close : goal.invariant-close
invariant-close g l = record {
  hand : (w : Shift g.row.B.Denot g.row.L.Denot)
      → IsInHand (sight g.B.Blob.told g.B.Blob.seen g.L.Leaf.seen) l.book w l.fn.self
      → IsHand (sight g.B.Blob.told g.B.Blob.seen g.L.Leaf.seen) l.book w l.self.pass
      (items_from l.place l.self.cards ++ items l.self.next);
  len : length l.self.cards.slots.items ≡ length l.fn.self.cards.slots.items;
}
