use Rattle.std.proofs.Common.{◌≡◌, sym, ap, ◌∙◌, subst}
use Rattle.turn_lock.specs.History.{own, Begins}
use Rattle.turn_lock.specs.Rule.{entering}
use Rattle.turn_lock.specs.Seat.{enters, seen, mine, number}
use Rattle.turn_lock.proofs.Shapes.{out_of, told_is}
use Rattle.turn_lock.proofs.lock.TurnLock.enter.Goals as goal

pub take_turn-requires-clause-out : goal.take_turn-requires-clause-out
take_turn-requires-clause-out g c = let o = out_of _ _ c.seat.invariant.0 (ap (λ s. s.known) c.seat.view_is) c.requires.out in (o.0, o.1)

pub invariant_of-seat : goal.invariant_of-seat
invariant_of-seat g c = let o = out_of _ _ c.seat.invariant.0 (ap (λ s. s.known) c.seat.view_is) c.requires.out in
    let e = c.take_turn.ensures.turn o.0 o.1 in
    ((entering (g.T.Kept.history c.take_turn.result.value) o.0, ap (λ m. m.0) e.0.0, ap (λ m. m.1) e.0.0), c.seat.invariant.1 ∙ (ap (λ m. number m.0) o.1.0 ∙ ap (λ m. number m.0) (sym e.0.0)))

pub returns-clause-inside : goal.returns-clause-inside
returns-clause-inside g c = let o = out_of _ _ c.seat.invariant.0 (ap (λ s. s.known) c.seat.view_is) c.requires.out in
    let e = c.take_turn.ensures.turn o.0 o.1 in
    let lock = c.take_turn.ensures.of ∙ ap (λ s. s.lock) c.seat.view_is in
    let known = ap (λ m. m.0) e.0.0 ∙ ap (enters (g.T.Kept.history c.take_turn.result.value)) o.2 in
    λ i. record { lock = lock i; known = known i }

pub returns-clause-fits : goal.returns-clause-fits
returns-clause-fits g c d t = let o = out_of _ _ c.seat.invariant.0 (ap (λ s. s.known) c.seat.view_is) c.requires.out in
    subst (g.T.Kept.fits c.take_turn.result.value) (told_is o.0 _ d o.2 t) (c.take_turn.ensures.turn o.0 o.1).1

pub returns-clause-begins : goal.returns-clause-begins
returns-clause-begins g c = let o = out_of _ _ c.seat.invariant.0 (ap (λ s. s.known) c.seat.view_is) c.requires.out in
    subst (λ k. Begins (seen k) (g.T.Kept.history c.take_turn.result.value)) o.2 (c.take_turn.ensures.turn o.0 o.1).2

pub returns-clause-mine : goal.returns-clause-mine
returns-clause-mine g c = let o = out_of _ _ c.seat.invariant.0 (ap (λ s. s.known) c.seat.view_is) c.requires.out in
    subst (λ k. mine k ≡ own (number k) (g.T.Kept.history c.take_turn.result.value)) o.2 (c.take_turn.ensures.turn o.0 o.1).3
