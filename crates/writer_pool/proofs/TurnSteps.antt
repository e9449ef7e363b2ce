-- What is closed in turns was claimed before.
use Rattle.std.proofs.Common.{◌≡◌, ℕ, zero, suc, ◌<◌, ◌⊎◌, inl, inr, ⊎_elim, List, [], ◌∷◌, ◌++◌, Some, sym, ap, ◌∙◌, subst, arith}
use Rattle.std.specs.Prelude.{slice_get}
use Rattle.checkout_core.specs.declared.event.Event.{Event}
use Rattle.checkout_core.specs.declared.event.Event.TheVariants.{Claim, Close, HandBack}
use Rattle.checkout_core.specs.declared.verdict.Own.{Own}
use Rattle.card_worker.specs.Turns.{IsClaimStep, IsCloseStep, TurnStep, TurnSteps, AreTurns}
use Rattle.writer_pool.proofs.Places.{some_is}

abbrev Among : Event → List Event → Type 0
Among x [] = ⊥
Among x (y ∷ ys) = (x ≡ y) ⊎ Among x ys

among_more : (x y : Event) (ys : List Event) → Among x (ys ++ y ∷ []) → Among x ys ⊎ (x ≡ y)
among_more x y [] h = ⊎_elim (λ (e : x ≡ y). inr e) (λ (k : ⊥). absurd k) h
among_more x y (z ∷ ys) h = ⊎_elim
    (λ (e : x ≡ z). inl (inl e))
    (λ (k : Among x (ys ++ y ∷ [])). ⊎_elim (λ (i : Among x ys). inl (inr i)) (λ (e : x ≡ y). inr e) (among_more x y ys k))
    h

-- a claim of this path is in hand, or it is among the events before
abbrev WasClaimed : List Event → List Event → ℕ → ℕ → ℕ → Type 0
WasClaimed hand es i p a = Among (Claim p a) hand ⊎ ((j : ℕ) × (j < i) × (slice_get es j ≡ Some (Claim p a)))

closed_now : (t u : List Event) (e : Event) (es : List Event) (p a : ℕ) (o : Own) → TurnStep t e u → e ≡ Close p a o
    → WasClaimed t (e ∷ es) zero p a
closed_now t u e es p a o step is = ⊎_elim
    (λ (k : IsClaimStep t e u). absurd (let claim = k.2 in cc (is, claim)))
    (λ (k : IsCloseStep t e u).
    let same : Close k.0 k.1 k.2 ≡ Close p a o = sym k.3 ∙ is in
    let path : k.0 ≡ p = cc (same) in
    let actor : k.1 ≡ a = cc (same) in
    inl (subst (Among (Claim p a)) (sym k.4) (inl (sym (λ i. Claim (path i) (actor i))))))
    step

claimed_now : (t u : List Event) (e : Event) (es : List Event) (i p a : ℕ) → TurnStep t e u
    → Among (Claim p a) u → WasClaimed t (e ∷ es) (suc i) p a
claimed_now t u e es i p a step among = ⊎_elim
    (λ (k : IsClaimStep t e u).
    ⊎_elim
    (λ (m : Among (Claim p a) t). inl m)
    (λ (is : Claim p a ≡ e). inr (zero, omega arith, ap (λ (x : Event). Some x) (sym is)))
    (among_more (Claim p a) e t (subst (Among (Claim p a)) k.4 among)))
    (λ (k : IsCloseStep t e u). inl (subst (Among (Claim p a)) (sym k.4) (inr among)))
    step

claimed_before : (es : List Event) (t u : List Event) (i p a : ℕ) (o : Own) → TurnSteps t es u
    → slice_get es i ≡ Some (Close p a o) → WasClaimed t es i p a
claimed_before [] t u i p a o h at = absurd (cc (at))
claimed_before (e ∷ es) t u zero p a o h at = closed_now t h.0 e es p a o h.1 (some_is e (Close p a o) at)
claimed_before (e ∷ es) t u (suc i) p a o h at = ⊎_elim
    (λ (k : Among (Claim p a) h.0). claimed_now t h.0 e es i p a h.1 k)
    (λ (k : (j : ℕ) × (j < i) × (slice_get es j ≡ Some (Claim p a))).
    let less = k.1 in
    inr (suc k.0, omega (arith, less), k.2))
    (claimed_before es h.0 u i p a o h.2 at)

-- what is closed in turns was claimed before
pub turns_claimed : (es : List Event) (i p a : ℕ) (o : Own) → AreTurns es → slice_get es i ≡ Some (Close p a o)
    → (j : ℕ) × (j < i) × (slice_get es j ≡ Some (Claim p a))
turns_claimed es i p a o h at = ⊎_elim
    (λ (k : ⊥). absurd k)
    (λ (k : (j : ℕ) × (j < i) × (slice_get es j ≡ Some (Claim p a))). k)
    (claimed_before es [] [] i p a o h at)

no_back : (t u : List Event) (e : Event) (p : ℕ) → TurnStep t e u → e ≡ HandBack p → ⊥
no_back t u e p step is = ⊎_elim
    (λ (k : IsClaimStep t e u). let claim = k.2 in cc (is, claim))
    (λ (k : IsCloseStep t e u). let close = k.3 in cc (is, close))
    step

back_never : (es : List Event) (t u : List Event) (i p : ℕ) → TurnSteps t es u → slice_get es i ≡ Some (HandBack p) → ⊥
back_never [] t u i p h at = cc (at)
back_never (e ∷ es) t u zero p h at = no_back t h.0 e p h.1 (some_is e (HandBack p) at)
back_never (e ∷ es) t u (suc i) p h at = back_never es h.0 u i p h.2 at

-- no path is handed back in turns
pub turns_back : (es : List Event) (i p : ℕ) → AreTurns es → slice_get es i ≡ Some (HandBack p) → ⊥
turns_back es i p h at = back_never es [] [] i p h at
