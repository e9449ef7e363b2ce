use Rattle.std.proofs.Common.{◌≡◌, sym, subst, set}
use Rattle.checkout_core.specs.declared.effect.Effect.TheVariants.{Switches}
use Rattle.checkout_core.specs.declared.effect.Sweep.TheVariants.{Keep}
use Rattle.checkout_core.specs.States.{Core}
use Rattle.checkout_core.specs.Effects.{after}
use Rattle.checkout_core.specs.Cursors.{IsFollowable}
use Rattle.checkout_core.proofs.Changes.{turn_sound, turn_is}
use Rattle.checkout_core.proofs.state.State.turn.Goals as goal

pub invariant_of-self : goal.invariant_of-self
invariant_of-self c =
    let fol = subst (λ (z : Core). IsFollowable z (Switches c.args.driver c.args.state Keep))
    (sym c.self.view_is) c.requires in
    turn_sound c.self.inside.workers c.self.inside.paths.items c.self.inside.drivers.items
    c.self.inside.cursors.items c.self.inside.unclosed c.args.driver c.args.state c.self.invariant fol

pub returns : goal.returns
returns c =
    let fol = subst (λ (z : Core). IsFollowable z (Switches c.args.driver c.args.state Keep))
    (sym c.self.view_is) c.requires in
    subst (λ (z : Core). record {
      workers = c.self.inside.workers;
      drivers =
          set c.self.inside.drivers.items c.args.driver c.args.state;
      paths = c.self.inside.paths.items;
    } ≡ after z
    (Switches c.args.driver c.args.state Keep)) c.self.view_is
    (turn_is c.self.inside.workers c.self.inside.paths.items c.self.inside.drivers.items c.self.inside.cursors.items
    c.self.inside.unclosed c.args.driver c.args.state c.self.invariant fol)
