use Rattle.std.proofs.Common.{◌≡◌, sym, ap, ◌∙◌, subst, rules}
use Rattle.std.specs.Option.{IsSome}
use mathlib.Core.Option.{some-injective}
use Rattle.turn_lock.specs.Rule.{Closes}
use Rattle.turn_lock.proofs.Ending.{ends}
use Rattle.turn_lock.proofs.lock.TurnLock.close.Goals as goal

pub unwrap-value-requires : goal.unwrap-value-requires
unwrap-value-requires g c =
    let o = c.requires.all in
    let e = ends g.T.Kept.history g.T.Kept.fits (g.T.Kept.told c.self.inside.table.shared.key.value) _ _ o.0 _ _ (ap (λ m. m.0) o.1.0) o.1.1 o.2 c.close_with-closed.ensures.values.2 in
    let same = some-injective _ _ (sym c.take.ensures.value ∙ e.1) in
    subst IsSome (sym same) (search rules)

pub returns : goal.returns
returns g c v out covers =
    let e = ends g.T.Kept.history g.T.Kept.fits (g.T.Kept.told c.self.inside.table.shared.key.value) _ _ v _ _ (ap (λ m. m.0) out.0) out.1 covers c.close_with-closed.ensures.values.2 in
    let same = some-injective _ _ (sym c.take.ensures.value ∙ e.1) in
    let there : e.0 ≡ c.unwrap-value.result = cc (same, c.unwrap-value.ensures) in
    subst (Closes g.T.Kept.history g.T.Kept.fits v) there e.2
