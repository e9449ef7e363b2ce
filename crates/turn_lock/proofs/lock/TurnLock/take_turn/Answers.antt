use Rattle.std.proofs.Common.{◌∷◌, Some, sym, ap, ◌∙◌, arith}
use Rattle.atomic_table.specs.Table.{rest}
use Rattle.turn_lock.proofs.Moves.{tries, tried_true}
use Rattle.turn_lock.proofs.lock.TurnLock.take_turn.Goals as goal

pub compare_exchange-found-requires : goal.compare_exchange-found-requires
compare_exchange-found-requires g c = let o = c.requires.out in let i = c.loop.invariant in
    (i.0 ∙ c.requires.of ∙ sym c.self.view_is, omega (arith, c.self.invariant.0), tries _ _ _ _ _ _ o.0 (i.1 ∙ o.1.0))

pub exchange-requires : goal.exchange-requires
exchange-requires g c = let o = c.requires.out in let i = c.loop.invariant in
    let t = tried_true g.T.Kept.history g.T.Kept.fits (g.T.Kept.told c.self.inside.table.shared.key.value) _ _ o.0 _ (i.1 ∙ o.1.0) c.if-found-eq0.true c.compare_exchange-found.ensures.2 in
    (c.compare_exchange-found.ensures.0 ∙ i.0 ∙ c.requires.of ∙ sym c.self.view_is, (Some t.0, ap (λ m. m.1) t.1 ∙ ap (λ m. (0, Some t.0) ∷ rest m.1) (sym t.1)))
