use Rattle.checkout_book.specs.Sights.{sight}
use Rattle.card_worker.proofs.SameCards.{slots_all}
use Rattle.card_worker.proofs.hand.Hand.find.Goals as goal

pub returns-then-is_empty-clause-next : goal.returns-then-is_empty-clause-next
returns-then-is_empty-clause-next g c =
    slots_all (sight g.B.Blob.told g.B.Blob.seen g.L.Leaf.seen) c.args.self.now.next.slots.items
