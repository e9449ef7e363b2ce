use Rattle.std.proofs.Common.{sym, subst}
use Rattle.checkout_book.specs.Sights.{sight}
use Rattle.card_worker.specs.declared.hand.Hand.{Hand}
use Rattle.card_worker.specs.Holding.{IsInHand}
use Rattle.card_worker.proofs.hand.Hand.claim_ahead.Goals as goal
use Rattle.card_worker.proofs.hand.Hand.claim_ahead.Goals.{then-not-wants_ahead-via-then-not-wants_ahead, then-not-wants_ahead-via-else-not-wants_ahead+then-not-claim_later}

pub claim_later-requires-clause-hand : goal.claim_later-requires-clause-hand
claim_later-requires-clause-hand g c κs within = let r = c.requires in (r.0, c.ahead.invariant.hand r.0 r.1)

pub ahead-preserved : goal.ahead-preserved
ahead-preserved g c = record { hand = λ w i. c.claim_later.ensures w (c.ahead.invariant.hand w i) }

pub returns-then-not-wants_ahead : goal.returns-then-not-wants_ahead
returns-then-not-wants_ahead g c w i =
    let see = sight g.B.Blob.told g.B.Blob.seen g.L.Leaf.seen in
    let k = c.ahead.invariant.hand w i in
    elim c.then-not-wants_ahead.branch [
      | then-not-wants_ahead-via-then-not-wants_ahead z ↦
          subst (λ (x : Hand g.row.B.Denot g.row.L.Denot). IsInHand see c.args.book.now w x) (sym z.self-is) k
      | then-not-wants_ahead-via-else-not-wants_ahead+then-not-claim_later z ↦
          subst (λ (x : Hand g.row.B.Denot g.row.L.Denot). IsInHand see c.args.book.now w x) (sym z.self-is)
          (z.claim_later.ensures w k)
    ]
