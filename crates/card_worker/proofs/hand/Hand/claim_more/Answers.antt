use Rattle.std.proofs.Common.{◌++◌, List, [], ◌∷◌, refl, sym, subst}
use Rattle.std.proofs.lemmas.List.{append-nil}
use Rattle.checkout_book.specs.Sights.{sight}
use Rattle.card_worker.specs.declared.held.Held.{Held}
use Rattle.card_worker.specs.Fews.{items}
use Rattle.card_worker.specs.Holding.{IsHand}
use Rattle.card_worker.proofs.FewLemmas.{few_alone, behind_first, none_of}
use Rattle.card_worker.proofs.hand.Hand.claim_more.Goals as goal

pub claim_next-requires-after_bounds : goal.claim_next-requires-after_bounds
claim_next-requires-after_bounds g c κs within =
    let r = c.requires.hand in
    let self = c.args.self.now in
    (r.0, items self.cards ++ items self.next, r.1, few_alone self.cards self.next c.requires.room c.requires.ahead)

pub returns-in_default-clause-hand : goal.returns-in_default-clause-hand
returns-in_default-clause-hand g c w i =
    let see = sight g.B.Blob.told g.B.Blob.seen g.L.Leaf.seen in
    let self = c.args.self.now in
    let hs : List (Held g.row.B.Denot g.row.L.Denot) = items self.cards ++ items self.next in
    subst (IsHand see c.args.book.now w c.claim_next.new.pass) (append-nil hs)
    (c.in_default.ensures.hand w hs i (few_alone self.cards self.next c.requires.room c.requires.ahead))

pub returns-in_default-clause-none : goal.returns-in_default-clause-none
returns-in_default-clause-none g c is = (
  refl,
  λ w i. c.claim_next.ensures.none (none_of c.claim_next.result c.in_default.not-Some) w
      (items c.args.self.now.cards ++ items c.args.self.now.next) i,
)

pub returns-clause-hand : goal.returns-clause-hand
returns-clause-hand g c w i =
    let see = sight g.B.Blob.told g.B.Blob.seen g.L.Leaf.seen in
    let self = c.args.self.now in
    let new : List (Held g.row.B.Denot g.row.L.Denot) = c.in-Some.held ∷ [] in
    let hand = IsHand see c.args.book.now w c.claim_next.new.pass in
    subst (λ (l : List (Held g.row.B.Denot g.row.L.Denot)). hand (l ++ items self.next)) (sym c.push.ensures)
    (subst hand (behind_first (items self.cards) (items self.next) new c.requires.ahead)
    (c.in-Some.ensures.hand w (items self.cards ++ items self.next) i
    (few_alone self.cards self.next c.requires.room c.requires.ahead)))
