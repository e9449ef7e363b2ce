-- The notes of a driver are its desk's own entries, except the claims, closes and hand-backs.
use Rattle.std.proofs.Common.{◌≡◌, ◌==◌, ℕ, ◌+◌, ⊎_elim, Bool, true, false, cond, List, [], ◌∷◌, Option, Some, None}
use Rattle.std.proofs.Common.{refl, sym, ap, ◌∙◌, arith}
use Rattle.std.specs.Prelude.{◌&&◌}
use Rattle.checkout_core.specs.declared.path.Start.{Start}
use Rattle.checkout_core.specs.declared.event.Event.{Event}
use Rattle.checkout_core.specs.declared.event.Event.TheVariants as ev
use Rattle.checkout_core.specs.Actors.{driver_at, seat, is_actor, is_own, own_entries}
use Rattle.checkout_core.specs.Notes.{is_note, notes, is_noted, noted}
use Rattle.checkout_core.proofs.Basics.{same_or, eqb_self, other_number}

same_seat : (workers d f : ℕ) → (d == f) ≡ (workers + d == workers + f)
same_seat workers d f = ⊎_elim
    (λ (k : (d ≡ f) × ((d == f) ≡ true)). k.1 ∙ sym (ap (λ (z : ℕ). workers + z == workers + f) k.0
    ∙ eqb_self (workers + f)))
    (λ (k : (d == f) ≡ false). k ∙ sym (other_number (workers + d) (workers + f) (λ i. apart k i)))
    (same_or d f)
  where
    apart : (d == f) ≡ false → workers + d ≡ workers + f → ⊥
    apart k i =
        let same : d ≡ f = omega arith in
        let z : (d == f) ≡ true = ap (λ (z : ℕ). z == f) same ∙ eqb_self f in
        absurd (cc (z, k))

-- a driver's desk is its own, whatever workers stand before it
same_desk : (workers d : ℕ) (o : Option ℕ) → is_actor d o ≡ is_actor (workers + d) (seat workers o)
same_desk workers d None = refl
same_desk workers d (Some f) = same_seat workers d f

note_is_own : (starts : List Start) (workers d : ℕ) (e : Event)
    → is_note starts d e ≡ (is_noted e && is_own starts workers (workers + d) e)
note_is_own starts workers d (ev.Claim p a) = refl
note_is_own starts workers d (ev.Close p a o) = refl
note_is_own starts workers d (ev.HandBack p) = refl
note_is_own starts workers d (ev.Opened f caps) = same_desk workers d (Some f)
note_is_own starts workers d (ev.OpenFailed p o) = same_desk workers d (driver_at starts p)
note_is_own starts workers d (ev.Answered p y) = same_desk workers d (driver_at starts p)
note_is_own starts workers d (ev.Named p) = same_desk workers d (driver_at starts p)
note_is_own starts workers d (ev.Listed f y) = same_desk workers d (Some f)
note_is_own starts workers d (ev.Redone p y) = same_desk workers d (driver_at starts p)
note_is_own starts workers d (ev.Shut f) = same_desk workers d (Some f)

more_own : (e : Event) (b c : Bool) (ns own : List Event) → is_noted e ≡ c → ns ≡ noted own
    → cond (c && b) (e ∷ ns) ns ≡ noted (cond b (e ∷ own) own)
more_own e true true ns own i h = ap (λ (z : List Event). e ∷ z) h
    ∙ sym (ap (λ (z : Bool). cond z (e ∷ noted own) (noted own)) i)
more_own e true false ns own i h = h ∙ sym (ap (λ (z : Bool). cond z (e ∷ noted own) (noted own)) i)
more_own e false true ns own i h = h
more_own e false false ns own i h = h

pub notes_own : (starts : List Start) (workers d : ℕ) (es : List Event)
    → notes starts d es ≡ noted (own_entries starts workers (workers + d) es)
notes_own starts workers d [] = refl
notes_own starts workers d (e ∷ es) =
    ap (λ (b : Bool). cond b (e ∷ notes starts d es) (notes starts d es)) (note_is_own starts workers d e)
    ∙ more_own e (is_own starts workers (workers + d) e) (is_noted e) (notes starts d es)
    (own_entries starts workers (workers + d) es) refl (notes_own starts workers d es)
