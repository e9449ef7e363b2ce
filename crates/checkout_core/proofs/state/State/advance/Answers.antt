use Rattle.std.proofs.Common.{◌≡◌, ℕ, sym, subst, set, arith}
use Rattle.checkout_core.specs.declared.cursor.Cursor.{Cursor}
use Rattle.checkout_core.specs.declared.driver.DriverState.{DriverState}
use Rattle.checkout_core.specs.declared.effect.Effect.{Effect}
use Rattle.checkout_core.specs.declared.effect.Effect.TheVariants.{Both}
use Rattle.checkout_core.specs.declared.path.PathState.{PathState}
use Rattle.checkout_core.specs.declared.effect.Sweep.TheVariants.{Keep}
use Rattle.checkout_core.specs.States.{Core}
use Rattle.checkout_core.specs.Effects.{after}
use Rattle.checkout_core.specs.Cursors.{IsSound, IsCursor}
use Rattle.checkout_core.proofs.Changes.{advance_sound, advance_fits, advance_is, path_within, driver_within}
use Rattle.checkout_core.proofs.Changes.{followable_in}
use Rattle.checkout_core.proofs.state.State.advance.Goals as goal

-- the effect of an advance
abbrev moved : ℕ → PathState → ℕ → DriverState → Effect
moved path state driver next = Both path state driver next Keep

pub returns : goal.returns
returns c =
    let fol = followable_in (moved c.args.path c.args.state c.args.driver c.args.next) c.self.view_is c.requires in
    subst (λ (z : Core). record {
      workers = c.self.inside.workers;
      drivers = set c.self.inside.drivers.items c.args.driver c.args.next;
      paths = set c.self.inside.paths.items c.args.path (record
          { start = c.index-was.result.now.start; state = c.args.state });
    } ≡ after z (moved c.args.path c.args.state c.args.driver c.args.next)) c.self.view_is
    (advance_is c.self.inside.workers c.self.inside.paths.items c.self.inside.drivers.items c.args.path
    c.args.driver c.args.state c.args.next c.index-was.result.now fol c.index-was.ensures)

pub invariant_of-self : goal.invariant_of-self
invariant_of-self c =
    let fol = followable_in (moved c.args.path c.args.state c.args.driver c.args.next) c.self.view_is c.requires in
    let cur = subst (λ (z : Core). IsCursor z c.args.driver c.cursor-cursor.result)
    (sym c.self.view_is) c.cursor-cursor.ensures in
    subst (λ (k : Cursor). IsSound c.self.inside.workers (set c.self.inside.paths.items c.args.path
    (record { start = c.index-was.result.now.start; state = c.args.state }))
    (set c.self.inside.drivers.items c.args.driver c.args.next)
    (set c.self.inside.cursors.items c.args.driver k) c.self.inside.unclosed) (sym c.after.ensures)
    (advance_sound c.self.inside.workers c.self.inside.paths.items c.self.inside.drivers.items
    c.self.inside.cursors.items c.self.inside.unclosed c.args.path c.args.driver c.args.state c.args.next
    c.cursor-cursor.result c.index-was.result.now c.self.invariant cur fol c.index-was.ensures)

pub after-requires : goal.after-requires
after-requires c =
    let fol = followable_in (moved c.args.path c.args.state c.args.driver c.args.next) c.self.view_is c.requires in
    let cur = subst (λ (z : Core). IsCursor z c.args.driver c.cursor-cursor.result)
    (sym c.self.view_is) c.cursor-cursor.ensures in
    advance_fits c.self.inside.workers c.self.inside.paths.items c.self.inside.drivers.items
    c.self.inside.cursors.items c.self.inside.unclosed c.args.path c.args.driver c.args.state c.args.next
    c.cursor-cursor.result c.index-was.result.now c.self.invariant cur fol c.index-was.ensures

pub index-was-requires : goal.index-was-requires
index-was-requires c =
    let fol = followable_in (moved c.args.path c.args.state c.args.driver c.args.next) c.self.view_is c.requires in
    let l = path_within c.self.inside.workers c.self.inside.paths.items c.self.inside.drivers.items c.args.path
    c.args.driver c.args.state c.args.next fol in omega arith

pub index_mut-requires : goal.index_mut-requires
index_mut-requires c =
    let fol = followable_in (moved c.args.path c.args.state c.args.driver c.args.next) c.self.view_is c.requires in
    let l = driver_within c.self.inside.workers c.self.inside.paths.items c.self.inside.drivers.items c.args.path
    c.args.driver c.args.state c.args.next fol in
    let s = c.self.invariant.cursors_follow.same_length in
    omega arith

pub index_mut-requires-2 : goal.index_mut-requires-2
index_mut-requires-2 c =
    let fol = followable_in (moved c.args.path c.args.state c.args.driver c.args.next) c.self.view_is c.requires in
    let l = path_within c.self.inside.workers c.self.inside.paths.items c.self.inside.drivers.items c.args.path
    c.args.driver c.args.state c.args.next fol in omega arith

pub index_mut-requires-3 : goal.index_mut-requires-3
index_mut-requires-3 c =
    let fol = followable_in (moved c.args.path c.args.state c.args.driver c.args.next) c.self.view_is c.requires in
    let l = driver_within c.self.inside.workers c.self.inside.paths.items c.self.inside.drivers.items c.args.path
    c.args.driver c.args.state c.args.next fol in omega arith
