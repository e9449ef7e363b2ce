use Rattle.std.proofs.Common.{◌∙◌, length, refl, arith}
use Rattle.checkout_book.specs.Sights.{sight}
use Rattle.card_worker.specs.Holding.{stored_in_slot}
use Rattle.card_worker.proofs.Digests.{digest_here}
use Rattle.card_worker.proofs.SameCards.{slots_all, slots_set, said_of_slots}
use Rattle.card_worker.proofs.ahead.find_sha1.Goals as goal

pub returns-then-cards-gt-ROOM : goal.returns-then-cards-gt-ROOM
returns-then-cards-gt-ROOM g c = slots_all (sight g.B.Blob.told g.B.Blob.seen g.L.Leaf.seen) c.args.cards.now

pub keep-init : goal.keep-init
keep-init g c = record {
  same = slots_all (sight g.B.Blob.told g.B.Blob.seen g.L.Leaf.seen) c.args.cards.now;
  stored = refl;
}

pub keep_sha1-requires : goal.keep_sha1-requires
keep_sha1-requires g c =
    digest_here stored_in_slot c.args.cards.now c.keep.cards c.sha1_of_each-found.result (length c.args.cards.now)
    c.keep.i c.index-cards-i.result (omega arith) (omega arith) c.sha1_of_each-found.ensures c.keep.invariant.stored

pub keep-preserved : goal.keep-preserved
keep-preserved g c = record {
  same = slots_set (sight g.B.Blob.told g.B.Blob.seen g.L.Leaf.seen) c.args.cards.now c.keep.cards c.keep.i _
      c.index-cards-i.result c.keep.invariant.same c.keep_sha1.ensures.same;
  stored = said_of_slots stored_in_slot c.keep.cards c.keep.i _ c.index-cards-i.result c.keep_sha1.ensures.stored
      ∙ c.keep.invariant.stored;
}
