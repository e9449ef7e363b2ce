-- Histories of a book, and what a pass may still do.
use Rattle.std.proofs.Common.{◌≡◌, ◌==◌, ℕ, ⊎_elim, Bool, true, false, cond, List, [], ◌∷◌, ◌++◌}
use Rattle.std.proofs.Common.{length, length-append, map, Option, Some, None, refl, sym, ap, ◌∙◌, subst, arith}
use Rattle.std.proofs.Common.{append_assoc}
use Rattle.std.specs.Prelude.{slice_get, is_some}
use mathlib.Core.List.{map-append}
use Rattle.turn_lock.specs.History.{own, Begins, Follows}
use Rattle.checkout_core.specs.declared.verdict.FilterCause.{FilterCause}
use Rattle.checkout_core.specs.declared.verdict.Own.{Own}
use Rattle.checkout_core.specs.declared.path.PathState.{PathState}
use Rattle.checkout_core.specs.declared.path.PathState.TheVariants as st
use Rattle.checkout_core.specs.declared.path.PathState.TheVariants.{Waiting, Held, Unasked, Closed}
use Rattle.checkout_core.specs.declared.path.Start.{Start}
use Rattle.checkout_core.specs.declared.path.Path.{Path}
use Rattle.checkout_core.specs.declared.event.Event.{Event}
use Rattle.checkout_core.specs.declared.event.Event.TheVariants as ev
use Rattle.checkout_core.specs.declared.event.Event.TheVariants.{Close}
use Rattle.checkout_core.specs.States.{Core, AreBelow, start}
use Rattle.checkout_core.specs.Steps.{replay}
use Rattle.checkout_core.specs.Actors.{actor_of, is_actor, own_entries, is_step, is_claim, is_ready, ready_at}
use Rattle.checkout_core.specs.Actors.{AlikeClaims}
use Rattle.checkout_core.specs.Hands.{is_held, held_at, Holds}
use Rattle.checkout_core.specs.Notes.{is_noted}
use Rattle.checkout_book.specs.declared.plan.BookPlan.{BookPlan}
use Rattle.checkout_book.specs.declared.plan.HistoryEntry.{HistoryEntry}
use Rattle.checkout_book.specs.declared.shelf.Slot.{Slot}
use Rattle.checkout_book.specs.Shape.{Shelf}
use Rattle.checkout_book.specs.Sights.{Sight, tell}
use Rattle.checkout_book.specs.Entries.{number_or, HaveActors, entries, history_of, events_of}
use Rattle.checkout_book.specs.Shelves.{plan_of, IsSound}
use Rattle.checkout_book.specs.Passes.{Stamped, IsRun}
use Rattle.checkout_book.proofs.Runs.{eqb_self, eqb_swap, same_number}
use Rattle.checkout_book.proofs.CoreLaws.{TellsHands, HandsStay, Decides}

own_append : {E : Type 0} (k : ℕ) (xs ys : List (ℕ × E)) → own k (xs ++ ys) ≡ own k xs ++ own k ys
own_append k [] ys = refl
own_append k (x ∷ xs) ys = go (x.0 == k) (own_append k xs ys)
  where
    go : (b : Bool) → own k (xs ++ ys) ≡ own k xs ++ own k ys
        → cond b (x.1 ∷ own k (xs ++ ys)) (own k (xs ++ ys)) ≡ cond b (x.1 ∷ own k xs) (own k xs) ++ own k ys
    go true h = ap (λ l. x.1 ∷ l) h
    go false h = h

own_here : (n : ℕ) (e : HistoryEntry) → own n ((n, e) ∷ []) ≡ e ∷ []
own_here n e = ap (λ (b : Bool). cond b (e ∷ []) []) (eqb_self n)

pub own_more : (n : ℕ) (h : List (ℕ × HistoryEntry)) (e : HistoryEntry) → own n (h ++ (n, e) ∷ []) ≡ own n h ++ e ∷ []
own_more n h e = own_append n h ((n, e) ∷ []) ∙ ap (λ l. own n h ++ l) (own_here n e)

pub begins_more : (xs ys zs : List (ℕ × HistoryEntry)) → Begins xs ys → Begins xs (ys ++ zs)
begins_more xs ys zs b = (b.0 ++ zs, sym (append_assoc xs b.0 zs) ∙ ap (λ l. l ++ zs) b.1)

pub follows_more : (n : ℕ) (xs ys zs : List (ℕ × HistoryEntry)) → Follows n ys zs → Begins xs ys → Begins xs zs
follows_more n xs ys zs f b = ⊎_elim
    (λ (same : zs ≡ ys). subst (Begins xs) (sym same) b)
    (λ (more : (e : HistoryEntry) × (zs ≡ ys ++ (n, e) ∷ [])). subst (Begins xs) (sym more.1)
    (begins_more xs ys ((n, more.0) ∷ []) b))
    f

own_cond : (n : ℕ) (x : HistoryEntry) (es : List Event) (os : List HistoryEntry) (b : Bool) → es ≡ map (λ e. e.event) os
    → cond b (x.event ∷ es) es ≡ map (λ e. e.event) (cond b (x ∷ os) os)
own_cond n x es os true e = ap (λ l. x.event ∷ l) e
own_cond n x es os false e = e

-- the events of an actor's own entries
pub own_events : (starts : List Start) (workers n : ℕ) (h : List (ℕ × HistoryEntry)) → Stamped starts workers h
    → own_entries starts workers n (events_of h) ≡ map (λ e. e.event) (own n h)
own_events starts workers n [] s = refl
own_events starts workers n (x ∷ xs) s =
    let rest = own_entries starts workers n (events_of xs) in
    ap (λ (b : Bool). cond b (x.1.event ∷ rest) rest) (ap (is_actor n) s.0 ∙ eqb_swap n x.0)
    ∙ own_cond n x.1 rest (own n xs) (x.0 == n) (own_events starts workers n xs s.1)

stamped_rest : (starts : List Start) (workers : ℕ) (xs ys : List (ℕ × HistoryEntry)) → Stamped starts workers (xs ++ ys)
    → Stamped starts workers ys
stamped_rest starts workers [] ys s = s
stamped_rest starts workers (x ∷ xs) ys s = stamped_rest starts workers xs ys s.1

nothing_more : {A : Type 0} (xs ys : List A) → xs ≡ xs ++ ys → ys ≡ []
nothing_more xs [] e = refl
nothing_more xs (y ∷ ys) e = absurd (omega (arith, ap length e, length-append xs (y ∷ ys)))

abbrev row_held : ℕ → Option Path → Bool
row_held a o = elim o [ None ↦ false | Some r ↦ is_held a r.state ]

unready : (a : ℕ) (c : Core) (p : ℕ) → held_at c a p ≡ false → ready_at c a p ≡ false
unready a c p h = go (slice_get c.paths p) h
  where
    at : (s : PathState) → is_held a s ≡ false → is_ready a s ≡ false
    at (Held b (Some k)) h = h
    at (Held b None) h = refl
    at (Waiting raw) h = refl
    at Unasked h = refl
    at st.Delayed h = refl
    at (st.Named t) h = refl
    at (st.Heard x) h = refl
    at (Closed v) h = refl

    go : (o : Option Path) → row_held a o ≡ false
        → (elim o as (λ _. Bool) [ None ↦ false | Some r ↦ is_ready a r.state ]) ≡ false
    go None h = refl
    go (Some r) h = at r.state h

held_holds : (c : Core) (n p : ℕ) → held_at c n p ≡ true → (raw : Option FilterCause) × Holds c p n raw
held_holds c n p h = go (slice_get c.paths p) refl h
  where
    at : (r : Path) → slice_get c.paths p ≡ Some r → (s : PathState) → r.state ≡ s → is_held n s ≡ true
        → (raw : Option FilterCause) × Holds c p n raw
    at r i (Held b raw) e h = (raw, (r, i, e ∙ ap (λ (z : ℕ). Held z raw) (sym (same_number n b h))))
    at r i (Waiting raw) e h = absurd (cc (h))
    at r i Unasked e h = absurd (cc (h))
    at r i st.Delayed e h = absurd (cc (h))
    at r i (st.Named t) e h = absurd (cc (h))
    at r i (st.Heard x) e h = absurd (cc (h))
    at r i (Closed v) e h = absurd (cc (h))

    go : (o : Option Path) → slice_get c.paths p ≡ o → row_held n o ≡ true → (raw : Option FilterCause)
        × Holds c p n raw
    go None i h = absurd (cc (h))
    go (Some r) i h = at r i r.state refl h

ready_holds : (c : Core) (n p : ℕ) (raw : Option FilterCause) → Holds c p n raw
    → ready_at c n p ≡ is_ready n (Held n raw)
ready_holds c n p raw h =
    ap (λ (o : Option Path). elim o as (λ _. Bool) [ None ↦ false | Some r ↦ is_ready n r.state ]) h.1
    ∙ ap (is_ready n) h.2

pub noted_alike : (own : List Event) (x y : Core) (e : Event) → is_noted e ≡ true
    → AlikeClaims own x y e × (is_claim e ≡ false)
noted_alike own x y (ev.Claim q b) is = absurd (cc (is))
noted_alike own x y (ev.Close q b o) is = absurd (cc (is))
noted_alike own x y (ev.HandBack q) is = (tt, refl)
noted_alike own x y (ev.Opened d caps) is = (tt, refl)
noted_alike own x y (ev.OpenFailed q o) is = (tt, refl)
noted_alike own x y (ev.Answered q z) is = (tt, refl)
noted_alike own x y (ev.Named q) is = (tt, refl)
noted_alike own x y (ev.Listed d z) is = (tt, refl)
noted_alike own x y (ev.Redone q z) is = (tt, refl)
noted_alike own x y (ev.Shut d) is = (tt, refl)

some_number : (o : Option ℕ) → is_some o ≡ true → o ≡ Some (number_or o)
some_number (Some a) h = refl
some_number None h = absurd (cc (h))

module _ {B L : Type 0} (see : Sight B L) where
  stamped_entries : (starts : List Start) (workers : ℕ) (slots : List (Slot B L)) (es : List Event)
      → HaveActors starts workers es → Stamped starts workers (entries (tell see) starts workers slots es)
  stamped_entries starts workers slots [] h = tt
  stamped_entries starts workers slots (e ∷ es) h =
      (some_number (actor_of starts workers e) h.0, stamped_entries starts workers slots es h.1)

  pub events_entries : (starts : List Start) (workers : ℕ) (slots : List (Slot B L)) (es : List Event)
      → events_of (entries (tell see) starts workers slots es) ≡ es
  events_entries starts workers slots [] = refl
  events_entries starts workers slots (e ∷ es) = ap (λ l. e ∷ l) (events_entries starts workers slots es)

  pub reads_of : (d : BookPlan B L) (v : Shelf B L) → plan_of v ≡ d → IsSound see v
      → IsRun d (history_of (tell see) v) v.core
  reads_of d v is sound = subst (λ (x : BookPlan B L). IsRun x (history_of (tell see) v) v.core) is record {
    stamped = stamped_entries v.starts.value.items v.workers v.slots.items v.events.items sound.actors;
    run = ap (replay (start v.starts.value.items v.workers v.drivers))
        (events_entries v.starts.value.items v.workers v.slots.items v.events.items) ∙ sound.run;
  }

module _ {B L : Type 0} where
  pub same_hands : TellsHands → (d : BookPlan B L) (n : ℕ) (h k : List (ℕ × HistoryEntry)) (c x : Core)
      → AreBelow d.drivers d.starts.items → IsRun d h c → IsRun d k x → own n h ≡ own n k → (q : ℕ)
      → held_at c n q ≡ held_at x n q
  same_hands law d n h k c x below r s e q =
      law d.starts.items d.workers d.drivers n (events_of h) (events_of k) c x below r.run s.run
      (own_events d.starts.items d.workers n h r.stamped
      ∙ (ap (map (λ e. e.event)) e ∙ sym (own_events d.starts.items d.workers n k s.stamped))) q

  -- what was in hand is so at the next turn
  pub still_holds : HandsStay → (d : BookPlan B L) (n p : ℕ) (raw : Option FilterCause) (h k : List (ℕ × HistoryEntry)) (c x : Core)
      → AreBelow d.drivers d.starts.items → IsRun d h c → IsRun d k x → Begins h k → own n h ≡ own n k
      → Holds c p n raw → Holds x p n raw
  still_holds law d n p raw h k c x below r s b e holds =
      let none : own n b.0 ≡ [] = nothing_more (own n h) (own n b.0)
      (e ∙ (ap (own n) (sym b.1) ∙ own_append n h b.0)) in
      let rest : own_entries d.starts.items d.workers n (events_of b.0) ≡ [] =
      own_events d.starts.items d.workers n b.0 (stamped_rest d.starts.items d.workers h b.0
      (subst (Stamped d.starts.items d.workers) (sym b.1) s.stamped)) ∙ ap (map (λ e. e.event)) none in
      law d.starts.items d.workers d.drivers p n raw c x (events_of h) (events_of b.0) below r.run
      (ap (replay (start d.starts.items d.workers d.drivers))
      (sym (map-append (λ (x : ℕ × HistoryEntry). x.1.event) h b.0) ∙ ap events_of b.1) ∙ s.run) rest holds

  -- what the pass may do by what it saw, it may do now
  pub steps_still : Decides → (d : BookPlan B L) (n : ℕ) (h k : List (ℕ × HistoryEntry)) (c x : Core) (e : Event)
      → AreBelow d.drivers d.starts.items → IsRun d h c → IsRun d k x → own n h ≡ own n k → is_claim e ≡ false
      → AlikeClaims (own_entries d.starts.items d.workers n (events_of h)) c x e
      → actor_of d.starts.items d.workers e ≡ Some n → is_step c e ≡ true → is_step x e ≡ true
  steps_still law d n h k c x e below r s same other alike by step =
      let equal = own_events d.starts.items d.workers n h r.stamped
      ∙ (ap (map (λ z. z.event)) same ∙ sym (own_events d.starts.items d.workers n k s.stamped)) in
      sym (law d.starts.items d.workers d.drivers n (events_of h) (events_of k) c x e below r.run s.run by equal other
      alike) ∙ step

  pub note_still : Decides → (d : BookPlan B L) (n : ℕ) (h k : List (ℕ × HistoryEntry)) (c x : Core) (e : Event)
      → AreBelow d.drivers d.starts.items → IsRun d h c → IsRun d k x → own n h ≡ own n k → is_noted e ≡ true
      → actor_of d.starts.items d.workers e ≡ Some n → is_step c e ≡ true → is_step x e ≡ true
  note_still law d n h k c x e below r s same noted by step =
      let alike = noted_alike (own_entries d.starts.items d.workers n (events_of h)) c x e noted in
      steps_still law d n h k c x e below r s same alike.1 alike.0 by step

  pub close_still : TellsHands → HandsStay → Decides → (d : BookPlan B L) (n p : ℕ) (o : Own) (h k : List (ℕ × HistoryEntry))
      (c x : Core) → AreBelow d.drivers d.starts.items → IsRun d h c → IsRun d k x → Begins h k → own n h ≡ own n k
      → is_step c (Close p n o) ≡ true → is_step x (Close p n o) ≡ true
  close_still hands stay law d n p o h k c x below r s b e step =
      steps_still law d n h k c x (Close p n o) below r s e refl (λ _. ready_same (held_at c n p) refl) refl step
    where
      ready_same : (v : Bool) → held_at c n p ≡ v → ready_at c n p ≡ ready_at x n p
      ready_same false i = unready n c p i
          ∙ sym (unready n x p (sym (same_hands hands d n h k c x below r s e p) ∙ i))
      ready_same true i = let q = held_holds c n p i in ready_holds c n p q.0 q.1
          ∙ sym (ready_holds x n p q.0 (still_holds stay d n p q.0 h k c x below r s b e q.1))
