use Rattle.std.proofs.Common.{◌≡◌, map}
use Rattle.checkout_book.specs.Sights.{sight}
use Rattle.card_worker.specs.Holding.{AreSameSlots, stored_in_slot}
use Rattle.card_worker.proofs.ahead.find_sha1.Given as goal

abbrev pub invariant-keep : goal.invariant-keep
invariant-keep g l = record {
  same : AreSameSlots (sight g.B.Blob.told g.B.Blob.seen g.L.Leaf.seen) l.fn.cards l.cards;
  stored : map stored_in_slot l.cards ≡ map stored_in_slot l.fn.cards;
}
