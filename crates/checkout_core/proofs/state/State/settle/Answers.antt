use Rattle.std.proofs.Common.{◌≡◌, sym, subst, ◌≤◌, ◌-◌, ℕ, set, arith}
use Rattle.checkout_core.specs.declared.effect.Effect.TheVariants.{Moves}
use Rattle.checkout_core.specs.States.{Core}
use Rattle.checkout_core.specs.Effects.{after}
use Rattle.checkout_core.specs.Cursors.{IsSound, IsFollowable}
use Rattle.checkout_core.proofs.Changes.{settle_within, settle_fits, settle_sound, settle_is}
use Rattle.checkout_core.proofs.state.State.settle.Goals as goal

pub index-was-requires : goal.index-was-requires
index-was-requires c =
    let fol = subst (λ (z : Core). IsFollowable z (Moves c.args.path c.args.state)) (sym c.self.view_is) c.requires in
    let l = settle_within c.self.inside.workers c.self.inside.paths.items c.self.inside.drivers.items
    c.self.inside.cursors.items c.self.inside.unclosed c.args.path c.args.state fol.0 c.self.invariant fol in
    omega arith

pub overflow_sub-self : goal.overflow_sub-self
overflow_sub-self c =
    let fol = subst (λ (z : Core). IsFollowable z (Moves c.args.path c.args.state)) (sym c.self.view_is) c.requires in
    subst (λ (n : ℕ). n ≤ c.self.inside.unclosed) (sym c.closed_number.ensures)
    (settle_fits c.self.inside.workers c.self.inside.paths.items c.self.inside.drivers.items
    c.self.inside.cursors.items c.self.inside.unclosed c.args.path c.args.state fol.0 c.self.invariant fol)

pub invariant_of-self : goal.invariant_of-self
invariant_of-self c =
    let fol = subst (λ (z : Core). IsFollowable z (Moves c.args.path c.args.state)) (sym c.self.view_is) c.requires in
    subst (λ (n : ℕ). IsSound c.self.inside.workers (set c.self.inside.paths.items c.args.path
    (record { start = c.index-was.result.now.start; state = c.args.state })) c.self.inside.drivers.items
    c.self.inside.cursors.items (c.self.inside.unclosed - n)) (sym c.closed_number.ensures)
    (settle_sound c.self.inside.workers c.self.inside.paths.items c.self.inside.drivers.items
    c.self.inside.cursors.items c.self.inside.unclosed c.args.path c.args.state c.index-was.result.now
    c.self.invariant fol c.index-was.ensures)

pub returns : goal.returns
returns c =
    let fol = subst (λ (z : Core). IsFollowable z (Moves c.args.path c.args.state)) (sym c.self.view_is) c.requires in
    subst (λ (z : Core). record {
      workers = c.self.inside.workers;
      drivers = c.self.inside.drivers.items;
      paths =
          set c.self.inside.paths.items c.args.path (record {
            start = c.index-was.result.now.start;
            state =
                c.args.state;
          });
    } ≡ after z (Moves c.args.path c.args.state)) c.self.view_is
    (settle_is c.self.inside.workers c.self.inside.paths.items c.self.inside.drivers.items
    c.self.inside.cursors.items c.self.inside.unclosed c.args.path c.args.state c.index-was.result.now
    c.self.invariant fol c.index-was.ensures)
