use Rattle.checkout_book.specs.Sights.{sight}
use Rattle.card_worker.proofs.Hands.{hand_found, hand_goes_on}
use Rattle.card_worker.proofs.hand.Hand.take_turn.Goals as goal

pub claim_ahead-requires-after_bounds : goal.claim_ahead-requires-after_bounds
claim_ahead-requires-after_bounds g c κs within = let r = c.requires.hand in (r.0, c.fill.ensures.hand r.0 r.1)

pub close_all-requires-after_bounds : goal.close_all-requires-after_bounds
close_all-requires-after_bounds g c κs within =
    let see = sight g.B.Blob.told g.B.Blob.seen g.L.Leaf.seen in
    let r = c.requires.hand in (
      r.0,
      hand_found see c.args.book.now r.0 c.claim_ahead.new.self c.find.new.self c.find.ensures.pass
          c.find.ensures.cards c.find.ensures.next (c.claim_ahead.ensures r.0 (c.fill.ensures.hand r.0 r.1)),
    )

pub returns-clause-hand : goal.returns-clause-hand
returns-clause-hand g c w i =
    let see = sight g.B.Blob.told g.B.Blob.seen g.L.Leaf.seen in
    hand_goes_on see c.args.book.now w c.close_all.new.self c.go_on.new.self c.go_on.ensures.pass
    c.close_all.ensures.none c.go_on.ensures.cards c.go_on.ensures.none
    (c.close_all.ensures.hand w
    (hand_found see c.args.book.now w c.claim_ahead.new.self c.find.new.self c.find.ensures.pass
    c.find.ensures.cards c.find.ensures.next (c.claim_ahead.ensures w (c.fill.ensures.hand w i))))
