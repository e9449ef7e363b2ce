-- What a driver's notes tell, in the own list of its desk, in the history and in a longer one.
use Rattle.std.proofs.Common.{◌≡◌, ◌==◌, ◌&&◌, ℕ, ◌+◌, ◌<◌, inl, inr, ⊎_elim, Bool, true, false, cond, List, [], ◌∷◌, ◌++◌, length, Option, Some, None, refl, sym, ap, ◌∙◌, subst, arith}
use Rattle.std.specs.Prelude.{slice_get}
use Rattle.turn_lock.specs.History.{own}
use Rattle.edge_kit.specs.Seen.{BlobSeen, LeafSeen}
use Rattle.convert_plan.specs.Card.{CardSeen}
use Rattle.checkout_core.specs.declared.event.Event.{Event}
use Rattle.checkout_core.specs.declared.event.Event.TheVariants as event
use Rattle.checkout_core.specs.declared.event.Event.TheVariants.{Claim, Close, HandBack}
use Rattle.checkout_core.specs.declared.path.Start.{Start}
use Rattle.checkout_core.specs.declared.path.Start.TheVariants.{Pool}
use Rattle.checkout_core.specs.declared.verdict.Own.{Own}
use Rattle.checkout_core.specs.Actors.{driver_in, is_actor, seat}
use Rattle.checkout_core.specs.Fates.{Untold, fate_of}
use Rattle.checkout_core.specs.Notes.{is_noted, noted, is_note, notes}
use Rattle.checkout_book.specs.declared.plan.Parts.{Parts}
use Rattle.checkout_book.specs.declared.shelf.Slot.{Slot}
use Rattle.checkout_book.specs.declared.plan.HistoryEntry.{HistoryEntry}
use Rattle.checkout_book.specs.Entries.{number_or, number_in, entry_of, entries}
use Rattle.card_worker.specs.Writing.{WritesCard}
use Rattle.writer_pool.specs.Closing.{IsFromBook, IsFromDesk, ServesCard, EndsAtDesk, EndsCard}
use Rattle.card_worker.specs.Working.{own_events}
use Rattle.writer_pool.proofs.Places.{same_or, eqb_self, get_front, get_within, place_is}

none_noted : (starts : List Start) (d : ℕ) (es : List Event) → noted es ≡ [] → notes starts d es ≡ []
none_noted starts d [] e = refl
none_noted starts d (x ∷ es) e = go (is_noted x) e (λ h. none_noted starts d es h)
  where
    go : (b : Bool) → cond b (x ∷ noted es) (noted es) ≡ [] → (noted es ≡ [] → notes starts d es ≡ [])
        → cond (b && is_actor d (driver_in starts x)) (x ∷ notes starts d es) (notes starts d es) ≡ []
    go true h more = absurd (cc (h))
    go false h more = more h

-- entries without a note add none
pub notes_quiet : (starts : List Start) (d : ℕ) (xs ys : List Event) → noted ys ≡ []
    → notes starts d (xs ++ ys) ≡ notes starts d xs
notes_quiet starts d [] ys e = none_noted starts d ys e
notes_quiet starts d (x ∷ xs) ys e =
    ap (λ (l : List Event). cond (is_note starts d x) (x ∷ l) l) (notes_quiet starts d xs ys e)

other_driver : (workers d : ℕ) (o : Option ℕ) → (number_or (seat workers o) == workers + d) ≡ false
    → is_actor d o ≡ false
other_driver workers d None e = refl
other_driver workers d (Some x) e = ⊎_elim
    (λ (h : (d ≡ x) × ((d == x) ≡ true)). absurd (
    let same : (workers + x == workers + d) ≡ true =
    ap (λ (z : ℕ). workers + x == workers + z) h.0 ∙ eqb_self (workers + x) in
    cc (same, e)))
    (λ (h : ((d ≡ x) → ⊥) × ((d == x) ≡ false)). h.1)
    (same_or d x)

-- another actor's entry is no note of the driver
no_note : (starts : List Start) (workers d : ℕ) (e : Event) → (number_in starts workers e == workers + d) ≡ false
    → is_note starts d e ≡ false
no_note starts workers d (Claim p a) other = refl
no_note starts workers d (Close p a o) other = refl
no_note starts workers d (HandBack p) other = refl
no_note starts workers d (event.Opened e c) other = other_driver workers d (driver_in starts (event.Opened e c)) other
no_note starts workers d (event.OpenFailed p o) other =
    other_driver workers d (driver_in starts (event.OpenFailed p o)) other
no_note starts workers d (event.Answered p y) other =
    other_driver workers d (driver_in starts (event.Answered p y)) other
no_note starts workers d (event.Named p) other = other_driver workers d (driver_in starts (event.Named p)) other
no_note starts workers d (event.Listed e y) other = other_driver workers d (driver_in starts (event.Listed e y)) other
no_note starts workers d (event.Redone p y) other = other_driver workers d (driver_in starts (event.Redone p y)) other
no_note starts workers d (event.Shut e) other = other_driver workers d (driver_in starts (event.Shut e)) other

module _ {B L : Type 0} (tells : B → L → Parts) where
  -- the notes of a driver are those of its desk's own list
  pub own_notes : (starts : List Start) (workers d : ℕ) (slots : List (Slot B L)) (es : List Event)
      → notes starts d (own_events (own (workers + d) (entries tells starts workers slots es))) ≡ notes starts d es
  own_notes starts workers d slots [] = refl
  own_notes starts workers d slots (e ∷ es) =
      go (number_in starts workers e == workers + d) refl (own_notes starts workers d slots es)
    where
      mine : List HistoryEntry
      mine = own (workers + d) (entries tells starts workers slots es)

      go : (b : Bool) → (number_in starts workers e == workers + d) ≡ b
          → notes starts d (own_events mine) ≡ notes starts d es
          → notes starts d (own_events (cond b (entry_of tells slots e ∷ mine) mine))
          ≡ notes starts d (e ∷ es)
      go true is more = ap (λ (l : List Event). cond (is_note starts d e) (e ∷ l) l) more
      go false is more =
          more ∙ sym (ap (λ (b : Bool). cond b (e ∷ notes starts d es) (notes starts d es))
          (no_note starts workers d e is))

-- what came before a place of a history is the same in a longer one
book_longer : (starts : List Start) (es more longer : List Event) (i p a : ℕ) → longer ≡ es ++ more
    → IsFromBook starts es i p a → IsFromBook starts longer i p a
book_longer starts es more longer i p a is h = ⊎_elim
    (λ (pool : slice_get starts p ≡ Some Pool). inl pool)
    (λ (claim : (j : ℕ) × (j < i) × (slice_get es j ≡ Some (Claim p a))). inr (
      claim.0,
      claim.1,
      ap (λ (l : List Event). slice_get l claim.0) is ∙ get_front es more claim.0 (Claim p a) claim.2,
    ))
    h

-- a card that its actor claimed was from the book
pub ends_claimed : (starts : List Start) (history : List Event) (j i p a : ℕ) (o : Own) (card : CardSeen)
    (blob : BlobSeen) (leaf : LeafSeen) → j < i → slice_get history j ≡ Some (Claim p a) → WritesCard card o blob leaf
    → EndsCard starts history i p a o card blob leaf
ends_claimed starts history j i p a o card blob leaf lt claim wrote = inl (inr (j, lt, claim), wrote)

-- what never left its desk by a longer history didn't before
pub desk_before : (starts : List Start) (es more longer : List Event) (i p a d : ℕ) (required : Bool)
    → longer ≡ es ++ more → IsFromDesk starts longer i p a d required → IsFromDesk starts es i p a d required
desk_before starts es more longer i p a d required is from = record {
  begun = from.begun;
  unclaimed = λ j lt claim. from.unclaimed j lt
      (ap (λ (l : List Event). slice_get l j) is ∙ get_front es more j (Claim p a) claim);
}

desk_longer : (starts : List Start) (es more longer : List Event) (i p a d : ℕ) (required : Bool) (e : Event)
    → longer ≡ es ++ more → slice_get es i ≡ Some e → IsFromDesk starts es i p a d required
    → IsFromDesk starts longer i p a d required
desk_longer starts es more longer i p a d required e is at from = record {
  begun = from.begun;
  unclaimed = λ j less claim.
      let lt : i < length es = place_is es i e at in
      from.unclaimed j less (sym (get_within es more j (omega (arith, less, lt)))
      ∙ (ap (λ (l : List Event). slice_get l j) (sym is) ∙ claim));
}

-- a longer history without a new note shows the same of a Close
pub ends_longer : (starts : List Start) (es more longer : List Event) (i p a : ℕ) (o : Own) (card : CardSeen)
    (blob : BlobSeen) (leaf : LeafSeen) → longer ≡ es ++ more → noted more ≡ [] → slice_get es i ≡ Some (Close p a o)
    → EndsCard starts es i p a o card blob leaf → EndsCard starts longer i p a o card blob leaf
ends_longer starts es more longer i p a o card blob leaf is quiet at h = ⊎_elim
    (λ (b : IsFromBook starts es i p a × WritesCard card o blob leaf).
    inl (book_longer starts es more longer i p a is b.0, b.1))
    (λ (b : EndsAtDesk starts es i p a o card blob leaf).
    let notes_are : notes starts b.driver es ≡ notes starts b.driver longer =
    sym (ap (notes starts b.driver) is ∙ notes_quiet starts b.driver es more quiet) in
    inr (record {
      driver = b.driver;
      required = b.required;
      desk = desk_longer starts es more longer i p a b.driver b.required (Close p a o) is at b.desk;
      serves = subst (λ (l : List Event). ServesCard b.required (fate_of p Untold l) card o blob leaf) notes_are
          b.serves;
    }))
    h
