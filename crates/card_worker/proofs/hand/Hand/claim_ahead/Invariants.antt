use Rattle.checkout_book.specs.Sights.{sight}
use Rattle.card_worker.specs.Holding.{Shift, IsInHand}
use Rattle.card_worker.proofs.hand.Hand.claim_ahead.Given as goal

abbrev pub invariant-ahead : goal.invariant-ahead
invariant-ahead g l = record {
  hand : (w : Shift g.row.B.Denot g.row.L.Denot)
      → IsInHand (sight g.B.Blob.told g.B.Blob.seen g.L.Leaf.seen) l.book w l.fn.self
      → IsInHand (sight g.B.Blob.told g.B.Blob.seen g.L.Leaf.seen) l.book w l.self;
}
