use Rattle.std.proofs.Common.{sym, ap, ◌∙◌, arith}
use Rattle.turn_lock.proofs.Sharing.{joins}
use Rattle.turn_lock.proofs.lock.TurnLock.join.Goals as goal

pub join_seat-requires : goal.join_seat-requires
join_seat-requires g c = let o = c.requires.out in
    (c.requires.of.0 ∙ sym c.self.view_is, c.requires.of.1 ∙ sym c.self.view_is, ap (λ m. m.1) o.3.0, omega (arith, c.self.invariant.0), joins _ _ _ _ _ _ _ o.0 o.1 (ap (λ m. m.0) o.2.0) (ap (λ m. m.0) o.3.0) o.2.1 o.3.1)
