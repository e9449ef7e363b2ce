use Rattle.std.proofs.Common.{◌∙◌, ap, subst, ◌≡◌, ◌<◌, ◌≤◌, ℕ, List, length, arith, Some}
use Rattle.std.specs.Prelude.{slice_get}
use Rattle.checkout_core.specs.declared.path.Path.{Path}
use Rattle.checkout_core.specs.Cursors.{asks, HoldsAt}
use Rattle.checkout_core.proofs.Follows.{cursor_on, lowest_found, lowest_lacks}
use Rattle.checkout_core.proofs.state.State.lowest_unasked.Goals as goal
use Rattle.checkout_core.proofs.state.State.lowest_unasked.Goals.{then-at-len, else-at-len}

pub invariant_of-self : goal.invariant_of-self
invariant_of-self c =
    let same = c.as_slice.ensures.value in
    cursor_on c.args.self.now c.self.inside.workers c.self.inside.paths.items c.self.inside.drivers.items
    c.self.inside.cursors.items c.self.inside.unclosed c.args.driver c.cursor-cursor.result
    c.next_unasked-at.result c.self.view_is c.self.invariant c.cursor-cursor.ensures
    (subst (λ (ps : List Path). c.next_unasked-at.result ≤ length ps) same c.next_unasked-at.ensures.range.1)
    (λ p r le l there. c.next_unasked-at.ensures.before p r le l (ap (λ (ps : List Path). slice_get ps p) same ∙ there))

pub returns-clause-lowest : goal.returns-clause-lowest
returns-clause-lowest c =
    let same = c.as_slice.ensures.value in
    let none = λ (p : ℕ) (r : Path) (le : c.cursor-cursor.result.unasked ≤ p) (l : p < c.next_unasked-at.result)
    (there : slice_get c.self.inside.paths.items p ≡ Some r).
    c.next_unasked-at.ensures.before p r le l (ap (λ (ps : List Path). slice_get ps p) same ∙ there) in
    elim c.if-at-len.branch [
      | then-at-len w ↦ w.result-is ∙ lowest_found c.args.self.now c.self.inside.workers c.self.inside.paths.items
          c.self.inside.drivers.items c.args.driver c.cursor-cursor.result c.next_unasked-at.result c.self.view_is
          c.cursor-cursor.ensures none
          (subst (λ (ps : List Path). c.next_unasked-at.result < length ps
          → HoldsAt (λ r. asks c.args.driver r) ps c.next_unasked-at.result) same c.next_unasked-at.ensures.found)
          (omega arith)
      | else-at-len w ↦ w.result-is ∙ lowest_lacks c.args.self.now c.self.inside.workers c.self.inside.paths.items
          c.self.inside.drivers.items c.args.driver c.cursor-cursor.result c.next_unasked-at.result c.self.view_is
          c.cursor-cursor.ensures none
          (omega arith)
    ]
