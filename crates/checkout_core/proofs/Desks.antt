-- A path whose desk isn't this actor.
use Rattle.std.proofs.Common.{◌≡◌, ◌==◌, ◌+◌, ℕ, Bool, Option, Some, None, cond, ap, sym, ◌∙◌}
use Rattle.std.specs.Prelude.{slice_get}
use Rattle.checkout_core.specs.declared.verdict.Own.{Own}
use Rattle.checkout_core.specs.declared.path.Heard.{Heard}
use Rattle.checkout_core.specs.declared.path.PathState.{PathState}
use Rattle.checkout_core.specs.declared.path.PathState.TheVariants as path
use Rattle.checkout_core.specs.declared.path.PathState.TheVariants.{Unasked}
use Rattle.checkout_core.specs.declared.path.Path.{Path}
use Rattle.checkout_core.specs.declared.driver.DriverState.{DriverState}
use Rattle.checkout_core.specs.declared.effect.Effect.{Effect}
use Rattle.checkout_core.specs.States.{Core}
use Rattle.checkout_core.specs.Verdicts.{heard_close, unasked_close}
use Rattle.checkout_core.specs.Conditions.{at_path, at_driver, of_driver, close_at, closing}
use Rattle.checkout_core.specs.DriverPaths.{LacksDesk}

at_path_some : (c : Core) (p : ℕ) (r : Path) (f : Path → Option Effect) → slice_get c.paths p ≡ Some r
    → at_path c p f ≡ f r
at_path_some c p r f there = ap (λ (o : Option Path). elim o as (λ _. Option Effect) [ None ↦ None | Some w ↦ f w ])
    there

pub heard_elsewhere : (c : Core) (p a : ℕ) (o : Own) (r : Path) (h : Heard) → slice_get c.paths p ≡ Some r
    → r.state ≡ path.Heard h → LacksDesk c p a → None ≡ at_path c p (λ w. close_at c p a o w w.state)
heard_elsewhere c p a o r h there is none =
    let f = λ (w : Path) (d : ℕ) (required : Bool) (x : DriverState). closing p (heard_close required h o) in
    sym (at_path_some c p r (λ w. close_at c p a o w w.state) there
    ∙ (ap (λ (s : PathState). close_at c p a o r s) is
    ∙ (sym (at_path_some c p r (λ w. of_driver w.start (λ d required.
    at_driver c d (λ x. cond (a == c.workers + d) (f w d required x) None))) there) ∙ none f)))

pub unasked_elsewhere : (c : Core) (p a : ℕ) (o : Own) (r : Path) → slice_get c.paths p ≡ Some r → r.state ≡ Unasked
    → LacksDesk c p a → None ≡ at_path c p (λ w. close_at c p a o w w.state)
unasked_elsewhere c p a o r there is none =
    let f = λ (w : Path) (d : ℕ) (required : Bool) (x : DriverState). closing p (unasked_close required x p o) in
    sym (at_path_some c p r (λ w. close_at c p a o w w.state) there
    ∙ (ap (λ (s : PathState). close_at c p a o r s) is
    ∙ (sym (at_path_some c p r (λ w. of_driver w.start (λ d required.
    at_driver c d (λ x. cond (a == c.workers + d) (f w d required x) None))) there) ∙ none f)))
