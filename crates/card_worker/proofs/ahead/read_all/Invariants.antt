use Rattle.checkout_book.specs.Sights.{sight}
use Rattle.card_worker.specs.Holding.{AreSameSlots}
use Rattle.card_worker.proofs.ahead.read_all.Given as goal

abbrev pub invariant-read : goal.invariant-read
invariant-read g l = AreSameSlots (sight g.B.Blob.told g.B.Blob.seen g.L.Leaf.seen) l.fn.cards l.cards
