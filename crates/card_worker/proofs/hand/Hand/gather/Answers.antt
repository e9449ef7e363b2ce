use Rattle.std.proofs.Common.{◌∙◌, sym, subst}
use Rattle.checkout_book.specs.Sights.{sight}
use Rattle.card_worker.specs.declared.hand.Hand.{Hand}
use Rattle.card_worker.specs.Holding.{IsInHand}
use Rattle.card_worker.proofs.hand.Hand.gather.Goals as goal
use Rattle.card_worker.proofs.hand.Hand.gather.Goals.{then-not-wants_more-via-then-not-wants_more, then-not-wants_more-via-else-not-wants_more+then-not-claim_more-2}

pub claim_more-requires-else-not-wants_more-clause-hand : goal.claim_more-requires-else-not-wants_more-clause-hand
claim_more-requires-else-not-wants_more-clause-hand g c κs within =
    let r = c.requires.hand in (r.0, c.more.invariant.hand r.0 r.1)

pub more-preserved : goal.more-preserved
more-preserved g c = record {
  hand = λ w i. c.claim_more-else-not-wants_more.ensures.hand w (c.more.invariant.hand w i);
  next = c.claim_more-else-not-wants_more.ensures.next ∙ c.more.invariant.next;
}

pub returns-then-not-wants_more-clause-hand : goal.returns-then-not-wants_more-clause-hand
returns-then-not-wants_more-clause-hand g c w i =
    let see = sight g.B.Blob.told g.B.Blob.seen g.L.Leaf.seen in
    let k = c.more.invariant.hand w i in
    elim c.then-not-wants_more.branch [
      | then-not-wants_more-via-then-not-wants_more z ↦
          subst (λ (x : Hand g.row.B.Denot g.row.L.Denot). IsInHand see c.args.book.now w x) (sym z.self-is) k
      | then-not-wants_more-via-else-not-wants_more+then-not-claim_more-2 z ↦
          subst (λ (x : Hand g.row.B.Denot g.row.L.Denot). IsInHand see c.args.book.now w x) (sym z.self-is)
          (z.claim_more-else-not-wants_more.ensures.hand w k)
    ]
