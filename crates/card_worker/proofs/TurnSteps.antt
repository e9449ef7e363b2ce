-- Turns, step by step.
use Rattle.std.proofs.Common.{ℕ, ◌<◌, inl, inr, List, [], ◌∷◌, ◌++◌, refl, sym, subst}
use Rattle.std.specs.Prelude.{length}
use Rattle.checkout_core.specs.declared.event.Event.{Event}
use Rattle.checkout_core.specs.declared.event.Event.TheVariants.{Claim, Close}
use Rattle.checkout_core.specs.declared.verdict.Own.{Own}
use Rattle.card_worker.specs.Turns.{TurnSteps}

steps_more : (xs ys : List Event) (t m u : List Event) → TurnSteps t xs m → TurnSteps m ys u → TurnSteps t (xs ++ ys) u
steps_more [] ys t m u h k = subst (λ (z : List Event). TurnSteps z ys u) (sym h) k
steps_more (x ∷ xs) ys t m u h k = (h.0, h.1, steps_more xs ys h.0 m u h.2 k)

pub claims_more : (es claims : List Event) (p a : ℕ) → TurnSteps [] es claims → length claims < 64
    → TurnSteps [] (es ++ Claim p a ∷ []) (claims ++ Claim p a ∷ [])
claims_more es claims p a h few =
    let u : List Event = claims ++ Claim p a ∷ [] in
    steps_more es (Claim p a ∷ []) [] claims u h (u, inl (p, a, refl, few, refl), refl)

pub closes_more : (es claims : List Event) (p a : ℕ) (o : Own) → TurnSteps [] es (Claim p a ∷ claims)
    → TurnSteps [] (es ++ Close p a o ∷ []) claims
closes_more es claims p a o h =
    steps_more es (Close p a o ∷ []) [] (Claim p a ∷ claims) claims h (claims, inr (p, a, o, refl, refl), refl)
