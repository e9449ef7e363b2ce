use Rattle.checkout_book.specs.Sights.{sight}
use Rattle.card_worker.proofs.SameCards.{slots_all, slots_set}
use Rattle.card_worker.proofs.ahead.read_all.Goals as goal

pub read-init : goal.read-init
read-init g c = slots_all (sight g.B.Blob.told g.B.Blob.seen g.L.Leaf.seen) c.args.cards.now

pub read-preserved : goal.read-preserved
read-preserved g c =
    slots_set (sight g.B.Blob.told g.B.Blob.seen g.L.Leaf.seen) c.args.cards.now c.read.cards c.read.i _
    c.index-cards-i.result c.read.invariant c.read_slot-taken.ensures
