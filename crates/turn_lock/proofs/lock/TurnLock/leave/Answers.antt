use Rattle.std.proofs.Common.{sym, ap, ◌∙◌, subst}
use Rattle.turn_lock.specs.History.{Follows}
use Rattle.turn_lock.specs.Rule.{leaving}
use Rattle.turn_lock.specs.Seat.{leaves, number}
use Rattle.turn_lock.proofs.Shapes.{in_of, told_is}
use Rattle.turn_lock.proofs.lock.TurnLock.leave.Goals as goal

pub give_turn-requires-clause-inside : goal.give_turn-requires-clause-inside
give_turn-requires-clause-inside g c = let r = c.requires.inside in let o = in_of _ _ r.0 c.seat.invariant.0 (ap (λ s. s.known) c.seat.view_is) r.1 in
    let f = c.requires.fits in
    (o.0, r.0, o.1, subst (g.T.Kept.fits c.args.turn.value) (sym (told_is o.0 _ f.0 o.2 f.1)) f.2, subst (λ k. Follows (number k) r.0 (g.T.Kept.history c.args.turn.value)) (sym o.2) r.2)

pub invariant_of-seat : goal.invariant_of-seat
invariant_of-seat g c = let r = c.requires.inside in let o = in_of _ _ r.0 c.seat.invariant.0 (ap (λ s. s.known) c.seat.view_is) r.1 in
    let e = c.give_turn.ensures.out o.0 r.0 o.1 in
    ((leaving (g.T.Kept.history c.args.turn.value) o.0, ap (λ m. m.0) e.0, ap (λ m. m.1) e.0), c.seat.invariant.1 ∙ (ap (λ m. number m.0) o.1.0 ∙ ap (λ m. number m.0) (sym e.0)))

pub returns : goal.returns
returns g c = let r = c.requires.inside in let o = in_of _ _ r.0 c.seat.invariant.0 (ap (λ s. s.known) c.seat.view_is) r.1 in
    let e = c.give_turn.ensures.out o.0 r.0 o.1 in
    let lock = c.give_turn.ensures.of ∙ ap (λ s. s.lock) c.seat.view_is in
    let known = ap (λ m. m.0) e.0 ∙ ap (leaves (g.T.Kept.history c.args.turn.value)) o.2 in
    λ i. record { lock = lock i; known = known i }
