-- What the history has of each driver's notes.
use Rattle.std.proofs.Common.{◌≡◌, ◌==◌, ◌&&◌, ℕ, ◌+◌, ◌<◌, ⊎_elim, Bool, true, false, cond, List, [], ◌∷◌, ◌++◌, Option, Some, None, refl, sym, ap, ◌∙◌, subst, eq-eqb, ne_eqb, arith}
use Rattle.std.specs.Prelude.{slice_get, is_some}
use Rattle.turn_lock.specs.History.{own}
use Rattle.turn_lock.specs.Seat.{SeatView, mine_of}
use Rattle.checkout_core.specs.declared.verdict.Own.{Own}
use Rattle.checkout_core.specs.declared.path.Start.{Start}
use Rattle.checkout_core.specs.declared.event.Event.{Event}
use Rattle.checkout_core.specs.declared.event.Event.TheVariants.{Claim, Close}
use Rattle.checkout_core.specs.Actors.{actor_of, own_entries, is_actor, is_own, driver_in}
use Rattle.checkout_core.specs.Notes.{is_note, is_noted, noted, notes}
use Rattle.checkout_book.specs.declared.plan.BookPlan.{BookPlan}
use Rattle.checkout_book.specs.declared.plan.HistoryEntry.{HistoryEntry}
use Rattle.checkout_book.specs.declared.shelf.Slot.{Slot}
use Rattle.checkout_book.specs.Shape.{Shelf}
use Rattle.checkout_book.specs.Sights.{Sight, tell}
use Rattle.checkout_book.specs.Entries.{HaveActors, number_or, entries, entry_of}
use Rattle.checkout_book.specs.Reserving.{IsFinished}
use Rattle.card_worker.specs.Working.{own_events}
use Rattle.writer_pool.proofs.Places.{same_or}

-- an event that no desk notes adds no note
more_quiet : (starts : List Start) (d : ℕ) (es : List Event) (e : Event) → is_noted e ≡ false
    → notes starts d (es ++ e ∷ []) ≡ notes starts d es
more_quiet starts d [] e quiet =
    ap (λ (b : Bool). cond (b && is_actor d (driver_in starts e)) (e ∷ []) []) quiet
more_quiet starts d (x ∷ es) e quiet =
    ap (λ (l : List Event). cond (is_note starts d x) (x ∷ l) l) (more_quiet starts d es e quiet)

-- a claim and a close add no note
pub turn_quiet : (starts : List Start) (d p q a b : ℕ) (o : Own) (es fs gs : List Event) → fs ≡ es ++ Claim p a ∷ []
    → gs ≡ fs ++ Close q b o ∷ [] → notes starts d gs ≡ notes starts d es
turn_quiet starts d p q a b o es fs gs claim close =
    ap (notes starts d) close
    ∙ (more_quiet starts d fs (Close q b o) refl
    ∙ (ap (notes starts d) claim ∙ more_quiet starts d es (Claim p a) refl))

-- an event of actor 0 adds none to another's own entries
more_own : (starts : List Start) (workers n : ℕ) (es : List Event) (e : Event) → 0 < n
    → actor_of starts workers e ≡ Some 0 → own_entries starts workers n (es ++ e ∷ []) ≡ own_entries starts workers n es
more_own starts workers n [] e more by =
    let other : (n == 0) ≡ false = ne_eqb n 0 (λ is. absurd (omega (arith, is, more))) in
    ap (λ (o : Option ℕ). cond (is_actor n o) (e ∷ []) []) by ∙ ap (λ (b : Bool). cond b (e ∷ []) []) other
more_own starts workers n (x ∷ es) e more by =
    ap (λ (l : List Event). cond (is_own starts workers n x) (x ∷ l) l) (more_own starts workers n es e more by)

-- a claim and a close by actor 0 add none
pub turn_own : (starts : List Start) (workers n p q : ℕ) (o : Own) (es fs gs : List Event) → 0 < n
    → fs ≡ es ++ Claim p 0 ∷ [] → gs ≡ fs ++ Close q 0 o ∷ []
    → own_entries starts workers n gs ≡ own_entries starts workers n es
turn_own starts workers n p q o es fs gs more claim close =
    ap (own_entries starts workers n) close
    ∙ (more_own starts workers n fs (Close q 0 o) more refl
    ∙ (ap (own_entries starts workers n) claim ∙ more_own starts workers n es (Claim p 0) more refl))

turned : (p q : ℕ) → (p == q) ≡ (q == p)
turned p q = ⊎_elim
    (λ (h : (p ≡ q) × ((p == q) ≡ true)). h.1 ∙ sym (eq-eqb q p (sym h.0)))
    (λ (h : ((p ≡ q) → ⊥) × ((p == q) ≡ false)). h.1 ∙ sym (ne_eqb q p (λ e. h.0 (sym e))))
    (same_or p q)

events_in : (b : Bool) (e : HistoryEntry) (es : List HistoryEntry) (fs : List Event) → own_events es ≡ fs
    → own_events (cond b (e ∷ es) es) ≡ cond b (e.event ∷ fs) fs
events_in true e es fs is = ap (λ (l : List Event). e.event ∷ l) is
events_in false e es fs is = is

own_here : (n : ℕ) (o : Option ℕ) (e : HistoryEntry) (es : List HistoryEntry) (fs : List Event) → is_some o ≡ true
    → own_events es ≡ fs → own_events (cond (number_or o == n) (e ∷ es) es) ≡ cond (is_actor n o) (e.event ∷ fs) fs
own_here n None e es fs some is = absurd (cc (some))
own_here n (Some b) e es fs some is = events_in (b == n) e es fs is
    ∙ ap (λ (x : Bool). cond x (e.event ∷ fs) fs) (turned b n)

module _ {B L : Type 0} (see : Sight B L) where
  -- an actor's own entries are those under its number
  own_same : (starts : List Start) (workers n : ℕ) (slots : List (Slot B L)) (es : List Event)
      → HaveActors starts workers es
      → own_events (own n (entries (tell see) starts workers slots es)) ≡ own_entries starts workers n es
  own_same starts workers n slots [] a = refl
  own_same starts workers n slots (e ∷ es) a =
      own_here n (actor_of starts workers e) (entry_of (tell see) slots e)
      (own n (entries (tell see) starts workers slots es)) (own_entries starts workers n es) a.0
      (own_same starts workers n slots es a.1)

  -- an actor's own list is what the history has of it
  pub entries_own : (d : BookPlan B L) (ts : List (SeatView HistoryEntry (BookPlan B L))) (s : Shelf B L) → IsFinished see d ts s
      → (n : ℕ) (t : SeatView HistoryEntry (BookPlan B L)) → slice_get ts n ≡ Some t
      → own_entries d.starts.items d.workers n s.events.items ≡ own_events (mine_of t)
  entries_own d ts s f n t at =
      subst (λ (x : BookPlan B L). own_entries x.starts.items x.workers n s.events.items ≡ own_events (mine_of t)) f.plan
      (sym (own_same s.starts.value.items s.workers n s.slots.items s.events.items f.sound.actors)
      ∙ ap (λ (l : List HistoryEntry). own_events l) (f.mine n t at))

  -- a driver's notes are those of its desk's own list
  pub noted_own : ((starts : List Start) (workers d : ℕ) (history : List Event)
      → notes starts d history ≡ noted (own_entries starts workers (workers + d) history))
      → (d : BookPlan B L) (ts : List (SeatView HistoryEntry (BookPlan B L))) (s : Shelf B L) → IsFinished see d ts s → (q : ℕ)
      (t : SeatView HistoryEntry (BookPlan B L)) → slice_get ts (d.workers + q) ≡ Some t
      → notes d.starts.items q s.events.items ≡ noted (own_events (mine_of t))
  noted_own law d ts s f q t at =
      subst (λ (x : BookPlan B L). slice_get ts (x.workers + q) ≡ Some t
      → notes x.starts.items q s.events.items ≡ noted (own_events (mine_of t))) f.plan
      (λ here. law s.starts.value.items s.workers q s.events.items
      ∙ ap (λ (l : List Event). noted l)
      (sym (own_same s.starts.value.items s.workers (s.workers + q) s.slots.items s.events.items f.sound.actors)
      ∙ ap (λ (l : List HistoryEntry). own_events l) (f.mine (s.workers + q) t here))) at
