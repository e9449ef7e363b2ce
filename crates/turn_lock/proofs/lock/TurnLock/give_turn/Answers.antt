use Rattle.std.proofs.Common.{◌∷◌, Some, sym, ap, ◌∙◌, subst, arith}
use mathlib.Core.Option.{none}
use Rattle.atomic_table.specs.Table.{step, rest, Allows}
use Rattle.turn_lock.specs.Rule.{Ruled, passed}
use Rattle.turn_lock.proofs.Moves.{passes}
use Rattle.turn_lock.proofs.lock.TurnLock.give_turn.Goals as goal

pub store-requires : goal.store-requires
store-requires g c = let i = c.requires.inside in
    let seat = c.exchange.new.seat in
    let told = g.T.Kept.told c.self.inside.table.shared.key.value in
    let e = c.exchange.ensures.3 ∙ ap (λ m. (m.0, (0, Some c.args.turn.value) ∷ rest m.1)) i.2.0 in (
      c.exchange.ensures.0 ∙ c.requires.of ∙ sym c.self.view_is,
      omega (arith, c.self.invariant.0),
      subst (λ n. Allows (Ruled g.T.Kept.history g.T.Kept.fits told) n seat.id seat.me 0 (λ _. 0) (λ _. passed g.T.Kept.history (step n 0 0 0 none) seat.me 0)) (sym c.self.invariant.1)
          (passes _ _ _ _ _ i.0 c.args.turn.value i.1 e i.2.1 i.3 i.4),
    )
