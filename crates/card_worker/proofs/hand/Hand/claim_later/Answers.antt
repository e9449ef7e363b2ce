use Rattle.std.proofs.Common.{◌++◌, List, [], ◌∷◌, sym, subst, append_assoc}
use Rattle.std.proofs.lemmas.List.{append-nil}
use Rattle.checkout_book.specs.Sights.{sight}
use Rattle.card_worker.specs.declared.held.Held.{Held}
use Rattle.card_worker.specs.Fews.{items}
use Rattle.card_worker.specs.Holding.{IsHand}
use Rattle.card_worker.proofs.FewLemmas.{few_after}
use Rattle.card_worker.proofs.hand.Hand.claim_later.Goals as goal

pub claim_next-requires-after_bounds : goal.claim_next-requires-after_bounds
claim_next-requires-after_bounds g c κs within =
    let r = c.requires.hand in
    let self = c.args.self.now in
    (r.0, items self.cards ++ items self.next, r.1, few_after self.cards self.next c.requires.few c.requires.room)

pub returns-in_default : goal.returns-in_default
returns-in_default g c w i =
    let see = sight g.B.Blob.told g.B.Blob.seen g.L.Leaf.seen in
    let self = c.args.self.now in
    let hs : List (Held g.row.B.Denot g.row.L.Denot) = items self.cards ++ items self.next in
    subst (IsHand see c.args.book.now w c.claim_next.new.pass) (append-nil hs)
    (c.in_default.ensures.hand w hs i (few_after self.cards self.next c.requires.few c.requires.room))

pub returns : goal.returns
returns g c w i =
    let see = sight g.B.Blob.told g.B.Blob.seen g.L.Leaf.seen in
    let self = c.args.self.now in
    let new : List (Held g.row.B.Denot g.row.L.Denot) = c.in-Some.held ∷ [] in
    let hand = IsHand see c.args.book.now w c.claim_next.new.pass in
    subst (λ (l : List (Held g.row.B.Denot g.row.L.Denot)). hand (items self.cards ++ l)) (sym c.push.ensures)
    (subst hand (append_assoc (items self.cards) (items self.next) new)
    (c.in-Some.ensures.hand w (items self.cards ++ items self.next) i (few_after self.cards self.next c.requires.few c.requires.room)))
