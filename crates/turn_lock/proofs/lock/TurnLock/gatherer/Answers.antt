use Rattle.std.proofs.Common.{[], sym, ap, ◌∙◌, subst, ◌<◌}
use Rattle.turn_lock.specs.Rule.{risen, gave, newcomer}
use Rattle.turn_lock.specs.Seat.{Holds, made, number}
use Rattle.turn_lock.proofs.Shapes.{out_of}
use Rattle.turn_lock.proofs.lock.TurnLock.gatherer.Goals as goal

pub split-requires-clause-out : goal.split-requires-clause-out
split-requires-clause-out g c = let o = out_of _ _ c.first.invariant.0 (ap (λ s. s.known) c.first.view_is) c.requires.out in
    (o.0, o.1, subst (λ k. 0 < made k) (sym o.2) c.requires.makes)

pub invariant_of-first : goal.invariant_of-first
invariant_of-first g c = let o = out_of _ _ c.first.invariant.0 (ap (λ s. s.known) c.first.view_is) c.requires.out in
    let e = (c.split.ensures.seats o.0 o.1).0 in
    ((risen o.0, ap (λ m. m.0) e.0, subst (λ p. Holds p c.split.new.seat.me.1) (sym o.1.1) (ap (λ m. m.1) e.0)), c.first.invariant.1 ∙ (ap (λ m. number m.0) o.1.0 ∙ ap (λ m. number m.0) (sym e.0)))

pub returns-clause-first : goal.returns-clause-first
returns-clause-first g c = let o = out_of _ _ c.first.invariant.0 (ap (λ s. s.known) c.first.view_is) c.requires.out in
    let e = (c.split.ensures.seats o.0 o.1).0 in
    let lock = c.split.ensures.of.0 ∙ ap (λ s. s.lock) c.first.view_is in
    let known = ap (λ m. m.0) e.0 ∙ ap gave o.2 in
    λ i. record { lock = lock i; known = known i }

pub returns-clause-result : goal.returns-clause-result
returns-clause-result g c = let o = out_of _ _ c.first.invariant.0 (ap (λ s. s.known) c.first.view_is) c.requires.out in
    (c.split.ensures.seats o.0 o.1).1.0 ∙ ap (λ k. (newcomer k, [])) o.2
