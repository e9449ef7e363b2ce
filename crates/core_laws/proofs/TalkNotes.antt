-- A note of a driver names no other driver.
use Rattle.std.proofs.Common.{◌≡◌, ℕ, Bool, true, cond, List, ◌∷◌, Option, Some, None, refl, ap}
use Rattle.checkout_core.specs.declared.path.Start.{Start}
use Rattle.checkout_core.specs.declared.event.Event.{Event}
use Rattle.checkout_core.specs.declared.event.Event.TheVariants as ev
use Rattle.checkout_core.specs.Notes.{is_note}
use Rattle.checkout_core.specs.Talks.{Talk, talk_next, talk_step, talk_run, is_with}

note_is_with : (starts : List Start) (d : ℕ) (e : Event) → is_note starts d e ≡ true → is_with d e ≡ true
note_is_with starts d (ev.Claim p a) h = refl
note_is_with starts d (ev.Close p a o) h = refl
note_is_with starts d (ev.Opened f caps) h = h
note_is_with starts d (ev.OpenFailed p o) h = refl
note_is_with starts d (ev.Answered p y) h = refl
note_is_with starts d (ev.Named p) h = refl
note_is_with starts d (ev.Listed f y) h = h
note_is_with starts d (ev.Redone p y) h = refl
note_is_with starts d (ev.HandBack p) h = refl
note_is_with starts d (ev.Shut f) h = h

pub with_note : (starts : List Start) (d : ℕ) (t : Talk) (e : Event) → is_note starts d e ≡ true
    → talk_step d t e ≡ talk_next t e
with_note starts d t e note = ap (λ (b : Bool). cond b (talk_next t e) None) (note_is_with starts d e note)

-- a note and those after it
pub run_step : (d : ℕ) (t u : Talk) (e : Event) (es : List Event) → talk_step d t e ≡ Some u
    → talk_run d t (e ∷ es) ≡ talk_run d u es
run_step d t u e es h = ap (λ (o : Option Talk). elim o as (λ _. Option Talk)
    [ None ↦ None | Some v ↦ talk_run d v es ]) h
