use Rattle.std.proofs.Common.{◌+◌, ◌++◌, ◌∙◌, List, Option, option_to_list, length, sym, ap, subst, arith}
use Rattle.checkout_book.specs.Sights.{sight}
use Rattle.card_worker.specs.declared.hand.Hand.{Hand}
use Rattle.card_worker.specs.declared.held.Held.{Held}
use Rattle.card_worker.specs.Fews.{items, items_from}
use Rattle.card_worker.specs.Holding.{IsHand}
use Rattle.card_worker.proofs.FewLemmas.{none_left, none_of}
use Rattle.card_worker.proofs.Hands.{to_be_written}
use Rattle.card_worker.proofs.hand.Hand.close_all.Goals as goal
use Rattle.card_worker.proofs.hand.Hand.close_all.Goals.{in-Some, in_default}

pub write_held-written-requires : goal.write_held-written-requires
write_held-written-requires g c =
    let see = sight g.B.Blob.told g.B.Blob.seen g.L.Leaf.seen in
    let lock = c.args.book.now in
    let r = c.requires in
    let next = items c.close.self.next in
    to_be_written see lock r.0 c.close.self.pass c.in-Some.held (items_from (c.close.place + 1) c.take.new.self ++ next)
    (subst (λ (l : List (Held g.row.B.Denot g.row.L.Denot)). IsHand see lock r.0 c.close.self.pass (l ++ next))
    c.in-Some.ensures.rest (c.close.invariant.hand r.0 r.1))

pub close_written-requires-after_bounds : goal.close_written-requires-after_bounds
close_written-requires-after_bounds g c κs within =
    let see = sight g.B.Blob.told g.B.Blob.seen g.L.Leaf.seen in
    let r = c.requires in
    let next = items c.close.self.next in (
      r.0,
      c.in-Some.held,
      items_from (c.close.place + 1) c.take.new.self ++ next,
      subst
          (λ (l : List (Held g.row.B.Denot g.row.L.Denot)). IsHand see c.args.book.now r.0 c.close.self.pass
          (l ++ next))
          c.in-Some.ensures.rest (c.close.invariant.hand r.0 r.1),
      c.write_held-written.ensures,
    )

pub close-preserved : goal.close-preserved
close-preserved g c = record {
  hand = λ w i.
      let see = sight g.B.Blob.told g.B.Blob.seen g.L.Leaf.seen in
      let lock = c.args.book.now in
      let next = items c.close.self.next in
      let left = items_from (c.close.place + 1) c.take.new.self in
      let hand = c.close.invariant.hand w i in
      elim c.match-take.branch [
        | in-Some z ↦
            subst
            (λ (x : Hand g.row.B.Denot g.row.L.Denot). IsHand see lock w x.pass
            (items_from (c.close.place + 1) x.cards ++ items x.next))
            (sym z.self-is)
            (z.close_written.ensures w z.in-Some.held (left ++ next)
            (subst (λ (l : List (Held g.row.B.Denot g.row.L.Denot)). IsHand see lock w c.close.self.pass (l ++ next))
            z.in-Some.ensures.rest hand)
            z.write_held-written.ensures)
        | in_default z ↦
            subst
            (λ (x : Hand g.row.B.Denot g.row.L.Denot). IsHand see lock w x.pass
            (items_from (c.close.place + 1) x.cards ++ items x.next))
            (sym z.self-is)
            (subst (λ (l : List (Held g.row.B.Denot g.row.L.Denot)). IsHand see lock w c.close.self.pass (l ++ next))
            (c.take.ensures.rest ∙ ap (λ (o : Option (Held g.row.B.Denot g.row.L.Denot)). option_to_list o ++ left)
            (none_of c.take.result z.in_default.not-Some))
            hand)
      ];
  len = elim c.match-take.branch [
    | in-Some z ↦ ap (λ (x : Hand g.row.B.Denot g.row.L.Denot). length x.cards.slots.items) z.self-is
        ∙ (c.take.ensures.len ∙ c.close.invariant.len)
    | in_default z ↦ ap (λ (x : Hand g.row.B.Denot g.row.L.Denot). length x.cards.slots.items) z.self-is
        ∙ (c.take.ensures.len ∙ c.close.invariant.len)
  ];
}

pub returns-clause-hand : goal.returns-clause-hand
returns-clause-hand g c w i =
    let see = sight g.B.Blob.told g.B.Blob.seen g.L.Leaf.seen in
    let next = items c.close.self.next in
    subst
    (λ (l : List (Held g.row.B.Denot g.row.L.Denot)). IsHand see c.args.book.now w c.close.self.pass (l ++ next))
    (none_left c.close.self.cards c.close.place (omega arith) ∙ sym c.clear.ensures)
    (c.close.invariant.hand w i)
