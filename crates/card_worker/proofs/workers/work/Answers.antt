use Rattle.std.proofs.Common.{◌++◌, ◌∙◌, List, sym, ap, subst}
use Rattle.turn_lock.specs.Seat.{number_of}
use Rattle.checkout_book.specs.Sights.{sight}
use Rattle.card_worker.specs.declared.held.Held.{Held}
use Rattle.card_worker.specs.Fews.{items}
use Rattle.card_worker.specs.Holding.{IsHand, Shift}
use Rattle.card_worker.specs.Working.{Idled}
use Rattle.card_worker.proofs.Hands.{hand_begins, hand_idle}
use Rattle.card_worker.proofs.workers.work.Goals as goal

pub turns-init : goal.turns-init
turns-init g c = record {
  hand = λ d made ready.
      let see = sight g.B.Blob.told g.B.Blob.seen g.L.Leaf.seen in
      subst (λ (l : List (Held g.row.B.Denot g.row.L.Denot)). IsHand see c.args.book.now
      (record { plan = d; number = number_of c.args.pass; made = made; pass = c.args.pass }) c.args.pass l)
      (sym (ap (λ (l : List (Held g.row.B.Denot g.row.L.Denot)). l ++ items c.with_room-2.result) c.with_room.ensures
      ∙ c.with_room-2.ensures))
      (hand_begins see c.args.book.now d (number_of c.args.pass) made c.args.pass ready);
  none = c.with_room-2.ensures;
}

pub take_turn-requires-clause-hand : goal.take_turn-requires-clause-hand
take_turn-requires-clause-hand g c κs within =
    let r = c.requires in (
      record { plan = r.0; number = number_of c.args.pass; made = r.1; pass = c.args.pass },
      c.turns.invariant.hand r.0 r.1 r.2,
    )

pub turns-preserved : goal.turns-preserved
turns-preserved g c = record {
  hand = λ d made ready.
      let w : Shift g.row.B.Denot g.row.L.Denot = record { plan = d; number = number_of c.args.pass; made = made; pass = c.args.pass } in
      c.take_turn.ensures.hand w (c.turns.invariant.hand d made ready);
  none = c.take_turn.ensures.none;
}

pub returns-then-not-take_turn : goal.returns-then-not-take_turn
returns-then-not-take_turn g c d made ready =
    let see = sight g.B.Blob.told g.B.Blob.seen g.L.Leaf.seen in
    let i = c.turns.invariant.hand d made ready in
    let w : Shift g.row.B.Denot g.row.L.Denot = record { plan = d; number = number_of c.args.pass; made = made; pass = c.args.pass } in
    subst (Idled see c.args.book.now d (number_of c.args.pass) made c.args.pass) (sym c.into_pass.ensures)
    (hand_idle see c.args.book.now w c.take_turn.new.self (c.take_turn.ensures.hand w i)
    (c.take_turn.ensures.idle c.if-not-take_turn.true).0 c.take_turn.ensures.none
    ((c.take_turn.ensures.idle c.if-not-take_turn.true).1 w i))
