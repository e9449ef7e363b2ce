-- A replay, event by event.
use Rattle.std.proofs.Common.{◌≡◌, ℕ, zero, suc, ◌+◌, List, [], ◌∷◌, Option, Some, None, refl, sym, ap, ◌∙◌, subst}
use Rattle.std.proofs.Common.{add-one, take}
use Rattle.std.specs.Prelude.{slice_get}
use Rattle.checkout_core.specs.declared.event.Event.{Event}
use Rattle.checkout_core.specs.States.{Core}
use Rattle.checkout_core.specs.Steps.{step_of, replay}
use Rattle.checkout_core.proofs.Basics.{none_is_some, some_is}

-- after the first event
after_first : (c x : Core) (e : Event) (es : List Event) → step_of c e ≡ Some x → replay c (e ∷ es) ≡ replay x es
after_first c x e es h = ap (λ (o : Option Core). elim o as (λ _. Option Core) [ None ↦ None | Some d ↦ replay d es ]) h

more : (c x y : Core) (es : List Event) (i : ℕ) (e : Event) → slice_get es i ≡ Some e
    → replay c (take i es) ≡ Some x → step_of x e ≡ Some y → replay c (take (suc i) es) ≡ Some y
more c x y [] i e there run step = none_is_some there
more c x y (f ∷ es) zero e there run step =
    let one : f ≡ e = some_is f e there in
    let same : c ≡ x = some_is c x run in
    after_first c y f [] (ap (λ z. step_of z f) same ∙ (ap (step_of x) one ∙ step))
more c x y (f ∷ es) (suc i) e there run step = go (step_of c f) refl (λ d run. more d x y es i e there run step)
  where
    go : (o : Option Core) → step_of c f ≡ o → ((d : Core) → replay d (take i es) ≡ Some x
        → replay d (take (suc i) es) ≡ Some y) → replay c (f ∷ take (suc i) es) ≡ Some y
    go None s ih = none_is_some (sym (ap (λ (o : Option Core).
        elim o as (λ _. Option Core) [ None ↦ None | Some d ↦ replay d (take i es) ]) s) ∙ run)
    go (Some d) s ih = after_first c d f (take (suc i) es) s ∙ ih d (sym (after_first c d f (take i es) s) ∙ run)

pub replay_more : (c x y : Core) (es : List Event) (i : ℕ) (e : Event) → slice_get es i ≡ Some e
    → replay c (take i es) ≡ Some x → step_of x e ≡ Some y → replay c (take (i + 1) es) ≡ Some y
replay_more c x y es i e there run step = subst (λ n. replay c (take n es) ≡ Some y) (sym (add-one i))
    (more c x y es i e there run step)
