-- The history of a shelf, as slots change.
use Rattle.std.proofs.Common.{◌≡◌, ℕ, ◌+◌, ◌<◌, Bool, true, cond, List, [], ◌∷◌, ◌++◌, set, Option, Some, None}
use Rattle.std.proofs.Common.{refl, sym, ap, ◌∙◌, arith}
use Rattle.std.specs.Prelude.{slice_get, is_some}
use mathlib.Core.List.{map-append}
use Rattle.checkout_core.specs.declared.path.Start.{Start}
use Rattle.checkout_core.specs.declared.verdict.Own.{Own}
use Rattle.checkout_core.specs.declared.event.Event.{Event}
use Rattle.checkout_core.specs.declared.event.Event.TheVariants as ev
use Rattle.checkout_core.specs.Actors.{actor_of}
use Rattle.checkout_core.specs.Closes.{closing_of, closes}
use Rattle.checkout_core.specs.Notes.{is_noted}
use Rattle.checkout_book.specs.declared.plan.Parts.{Parts}
use Rattle.checkout_book.specs.declared.shelf.Slot.{Slot}
use Rattle.checkout_book.specs.declared.shelf.Slot.TheVariants.{Ended}
use Rattle.checkout_book.specs.Entries.{number_in, HaveActors, parts_at, parts_of, entry_of, entries}
use Rattle.checkout_book.specs.Shelves.{IsEnded, AreEnded}
use Rattle.checkout_book.proofs.Lists.{get_set_other}
use Rattle.checkout_book.proofs.Runs.{eqb_self}

pub actors_more : (starts : List Start) (workers : ℕ) (es : List Event) (e : Event) → HaveActors starts workers es
    → is_some (actor_of starts workers e) ≡ true → HaveActors starts workers (es ++ e ∷ [])
actors_more starts workers [] e h k = (k, tt)
actors_more starts workers (f ∷ es) e h k = (h.0, actors_more starts workers es e h.1 k)

closes_append : (p : ℕ) (es : List Event) (e : Event) → closes p (es ++ e ∷ []) ≡ closes p es + closing_of p e
closes_append p [] e = omega arith
closes_append p (f ∷ es) e = omega (arith, closes_append p es e)

pub closed_more : (p : ℕ) (es : List Event) (e : Event) → 0 < closes p es → 0 < closes p (es ++ e ∷ [])
closed_more p es e h = omega (arith, closes_append p es e, h)

pub closed_here : (p a : ℕ) (o : Own) (es : List Event) → 0 < closes p (es ++ ev.Close p a o ∷ [])
closed_here p a o es =
    let one : closing_of p (ev.Close p a o) ≡ 1 = ap (λ (b : Bool). cond b 1 0) (eqb_self p) in
    omega (arith, closes_append p es (ev.Close p a o), one)

module _ {B L : Type 0} where
  abbrev pub NotEnded : List (Slot B L) → ℕ → Type 0
  NotEnded slots p = (b : B) (l : L) → slice_get slots p ≡ Some (Ended b l) → ⊥

  ended_kept : (slots : List (Slot B L)) (p : ℕ) (x : Slot B L) (e : Event) → NotEnded slots p → IsEnded slots e
      → IsEnded (set slots p x) e
  ended_kept slots p x (ev.Close q a o) n h =
      (h.0, h.1, get_set_other slots p q x (λ i. n h.0 h.1 (ap (slice_get slots) (sym i) ∙ h.2)) ∙ h.2)
  ended_kept slots p x (ev.Claim q a) n h = tt
  ended_kept slots p x (ev.Opened d c) n h = tt
  ended_kept slots p x (ev.OpenFailed q c) n h = tt
  ended_kept slots p x (ev.Answered q y) n h = tt
  ended_kept slots p x (ev.Named q) n h = tt
  ended_kept slots p x (ev.Listed d y) n h = tt
  ended_kept slots p x (ev.Redone q y) n h = tt
  ended_kept slots p x (ev.HandBack q) n h = tt
  ended_kept slots p x (ev.Shut d) n h = tt

  pub all_ended : (slots : List (Slot B L)) (p : ℕ) (x : Slot B L) (es : List Event) → NotEnded slots p
      → AreEnded slots es → AreEnded (set slots p x) es
  all_ended slots p x [] n h = tt
  all_ended slots p x (e ∷ es) n h = (ended_kept slots p x e n h.0, all_ended slots p x es n h.1)

  pub ended_more : (slots : List (Slot B L)) (es : List Event) (e : Event) → AreEnded slots es → IsEnded slots e
      → AreEnded slots (es ++ e ∷ [])
  ended_more slots [] e h k = (k, tt)
  ended_more slots (f ∷ es) e h k = (h.0, ended_more slots es e h.1 k)

  pub noted_ended : (slots : List (Slot B L)) (e : Event) → is_noted e ≡ true → IsEnded slots e
  noted_ended slots (ev.Claim q b) is = tt
  noted_ended slots (ev.Close q b o) is = absurd (cc (is))
  noted_ended slots (ev.HandBack q) is = tt
  noted_ended slots (ev.Opened d caps) is = tt
  noted_ended slots (ev.OpenFailed q o) is = tt
  noted_ended slots (ev.Answered q y) is = tt
  noted_ended slots (ev.Named q) is = tt
  noted_ended slots (ev.Listed d y) is = tt
  noted_ended slots (ev.Redone q y) is = tt
  noted_ended slots (ev.Shut d) is = tt

  module _ (tells : B → L → Parts) where
    parts_kept : (slots : List (Slot B L)) (p : ℕ) (x : Slot B L) (e : Event) → NotEnded slots p → IsEnded slots e
        → parts_of tells (set slots p x) e ≡ parts_of tells slots e
    parts_kept slots p x (ev.Close q a o) n h =
        ap (parts_at tells) (get_set_other slots p q x (λ i. n h.0 h.1 (ap (slice_get slots) (sym i) ∙ h.2)))
    parts_kept slots p x (ev.Claim q a) n h = refl
    parts_kept slots p x (ev.Opened d c) n h = refl
    parts_kept slots p x (ev.OpenFailed q c) n h = refl
    parts_kept slots p x (ev.Answered q y) n h = refl
    parts_kept slots p x (ev.Named q) n h = refl
    parts_kept slots p x (ev.Listed d y) n h = refl
    parts_kept slots p x (ev.Redone q y) n h = refl
    parts_kept slots p x (ev.HandBack q) n h = refl
    parts_kept slots p x (ev.Shut d) n h = refl

    entries_kept : (starts : List Start) (workers : ℕ) (slots : List (Slot B L)) (p : ℕ) (x : Slot B L)
        (es : List Event) → NotEnded slots p → AreEnded slots es
        → entries tells starts workers (set slots p x) es ≡ entries tells starts workers slots es
    entries_kept starts workers slots p x [] n h = refl
    entries_kept starts workers slots p x (e ∷ es) n h =
        let k = parts_kept slots p x e n h.0 in
        let r = entries_kept starts workers slots p x es n h.1 in
        ap (λ (z : Option Parts). (number_in starts workers e, record { event = e; parts = z }) ∷ entries tells
        starts workers (set slots p x) es) k
        ∙ ap (λ l. (number_in starts workers e, entry_of tells slots e) ∷ l) r

    -- the history gets one entry
    pub entries_more : (starts : List Start) (workers : ℕ) (slots : List (Slot B L)) (p : ℕ) (x : Slot B L)
        (es : List Event) (e : Event) → NotEnded slots p → AreEnded slots es
        → entries tells starts workers (set slots p x) (es ++ e ∷ []) ≡
        entries tells starts workers slots es ++ (number_in starts workers e, entry_of tells (set slots p x) e) ∷ []
    entries_more starts workers slots p x es e n h =
        map-append (λ e. (number_in starts workers e, entry_of tells (set slots p x) e)) es (e ∷ [])
        ∙ ap (λ l. l ++ (number_in starts workers e, entry_of tells (set slots p x) e) ∷ [])
        (entries_kept starts workers slots p x es n h)

    pub note_parts : (slots : List (Slot B L)) (e : Event) → is_noted e ≡ true
        → parts_of tells slots e ≡ None
    note_parts slots (ev.Claim q b) is = refl
    note_parts slots (ev.Close q b o) is = absurd (cc (is))
    note_parts slots (ev.HandBack q) is = refl
    note_parts slots (ev.Opened d caps) is = refl
    note_parts slots (ev.OpenFailed q o) is = refl
    note_parts slots (ev.Answered q y) is = refl
    note_parts slots (ev.Named q) is = refl
    note_parts slots (ev.Listed d y) is = refl
    note_parts slots (ev.Redone q y) is = refl
    note_parts slots (ev.Shut d) is = refl
