use Rattle.std.proofs.Common.{◌≡◌, ◌∙◌, sym, ap, subst, List, length, set, arith}
use Rattle.checkout_core.specs.declared.path.Path.{Path}
use Rattle.checkout_core.specs.declared.effect.Sweep.TheVariants.{Keep}
use Rattle.checkout_core.specs.States.{Core}
use Rattle.checkout_core.specs.Cursors.{IsSound, IsCursor, swept_paths}
use Rattle.checkout_core.proofs.Sweeps.{sweep_sound, sweep_kept, put_back, length_swept}
use Rattle.checkout_core.proofs.state.State.sweep.Goals as goal
use Rattle.checkout_core.proofs.state.State.sweep.Goals.{in-Keep, in_default}

pub returns-then-matches : goal.returns-then-matches
returns-then-matches c = elim c.match-matches.branch [
  | in-Keep w ↦ sweep_kept c.args.self.now c.args.driver c.args.sweep w.in-Keep.is
  | in_default w ↦ absurd (let x = w.matches-is in let y = c.if-matches.true in cc (x, y))
]

pub invariant_of-self : goal.invariant_of-self
invariant_of-self c =
    let cur = subst (λ (z : Core). IsCursor z c.args.driver c.cursor-cursor.result)
    (sym c.self.view_is) c.cursor-cursor.ensures in
    let ends : c.args.sweep ≡ Keep → ⊥ = elim c.match-matches.branch [
      | in-Keep w ↦ absurd (let x = w.matches-is in let y = c.if-matches.false in cc (x, y))
      | in_default w ↦ w.in_default.not-Keep
    ] in
    let new : c.sweep_paths.new.paths ≡ swept_paths c.args.driver c.args.sweep c.self.inside.paths.items =
    c.sweep_paths.ensures ∙ ap (λ (rs : List Path). swept_paths c.args.driver c.args.sweep rs)
    c.as_mut_slice.ensures.value in
    let same : length c.sweep_paths.new.paths ≡ length c.self.inside.paths.items = ap length new
    ∙ length_swept c.args.driver c.args.sweep c.self.inside.paths.items in
    let back = put_back c.sweep_paths.new.paths c.self.inside.paths.items c.self.inside.paths.len same (omega arith) in
    subst (λ (rs : List Path). IsSound c.self.inside.workers rs c.self.inside.drivers.items
    (set c.self.inside.cursors.items c.args.driver (record
    { unasked = c.cursor-cursor.result.unasked; first = 0; end = 0; named = 0; turn = 0 }))
    c.self.inside.unclosed) (sym (back ∙ new))
    (sweep_sound c.self.inside.workers c.self.inside.paths.items c.self.inside.drivers.items
    c.self.inside.cursors.items c.self.inside.unclosed c.args.driver c.args.sweep c.cursor-cursor.result ends
    c.self.invariant cur)
