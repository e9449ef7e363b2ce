use Rattle.std.proofs.Common.{◌≡◌, ℕ, []}
use Rattle.turn_lock.specs.Seat.{number_of}
use Rattle.checkout_book.specs.declared.plan.BookPlan.{BookPlan}
use Rattle.checkout_book.specs.Sights.{sight}
use Rattle.card_worker.specs.Fews.{items}
use Rattle.card_worker.specs.Holding.{IsInHand}
use Rattle.card_worker.specs.Working.{IsReady}
use Rattle.card_worker.proofs.workers.work.Given as goal

abbrev pub invariant-turns : goal.invariant-turns
invariant-turns g l = record {
  hand : (d : BookPlan g.row.B.Denot g.row.L.Denot) (made : ℕ)
      → IsReady (sight g.B.Blob.told g.B.Blob.seen g.L.Leaf.seen) l.book d (number_of l.fn.pass) made l.fn.pass
      → IsInHand (sight g.B.Blob.told g.B.Blob.seen g.L.Leaf.seen) l.book
      (record { plan = d; number = number_of l.fn.pass; made = made; pass = l.fn.pass }) l.hand;
  none : items l.hand.next ≡ [];
}
