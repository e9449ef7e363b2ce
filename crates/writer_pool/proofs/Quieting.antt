-- A book after all its passes came back.
use Rattle.std.proofs.Common.{◌≡◌, ◌==◌, ◌||◌, ℕ, zero, suc, ◌+◌, ◌<◌, ◌≤◌, inl, inr, ⊎_elim, Bool, true, false, cond, List, [], ◌∷◌, length, Option, Some, None, refl, sym, ap, ◌∙◌, subst, arith}
use Rattle.edge_kit.specs.Seen.{LeafSeen}
use Rattle.std.specs.Prelude.{slice_get}
use Rattle.atomic_table.specs.Seated.{TableId}
use Rattle.delay_table.specs.Table.{contains}
use Rattle.turn_lock.specs.History.{own}
use Rattle.turn_lock.specs.Seat.{SeatView, mine_of}
use Rattle.convert_plan.specs.declared.card.Card.{Card}
use Rattle.checkout_core.specs.declared.verdict.Own.{Own}
use Rattle.checkout_core.specs.declared.path.Start.{Start}
use Rattle.checkout_core.specs.declared.path.Start.TheVariants.{Pool}
use Rattle.checkout_core.specs.declared.event.Event.{Event}
use Rattle.checkout_core.specs.declared.event.Event.TheVariants.{Claim, Close, HandBack}
use Rattle.checkout_core.specs.Actors.{own_driver, seat}
use Rattle.checkout_core.specs.Desks.{paths_of, leaves, is_left}
use Rattle.checkout_core.specs.Fates.{Untold, fate_of}
use Rattle.checkout_core.specs.Notes.{notes}
use Rattle.checkout_book.specs.declared.plan.BookPlan.{BookPlan}
use Rattle.checkout_book.specs.declared.plan.Parts.{Parts}
use Rattle.checkout_book.specs.declared.plan.HistoryEntry.{HistoryEntry}
use Rattle.checkout_book.specs.declared.shelf.Slot.{Slot}
use Rattle.checkout_book.specs.declared.shelf.Slot.TheVariants.{Away, Waits, Ended}
use Rattle.checkout_book.specs.Shape.{Shelf}
use Rattle.checkout_book.specs.Sights.{Sight, seen, tell}
use Rattle.checkout_book.specs.Entries.{number_or, number_in, entries, entry_of, history_of, events_of, parts_at}
use Rattle.checkout_book.specs.Shelves.{cards_of, plan_of}
use Rattle.checkout_book.specs.Reserving.{IsFinished}
use Rattle.writer_pool.specs.Closing.{IsFromBook, IsFromDesk, RefusedBacks, ServesCard, EndsAtDesk, EndsCard}
use Rattle.card_worker.specs.Writing.{WritesCard}
use Rattle.card_worker.specs.Working.{blob_in, leaf_in, own_events}
use Rattle.writer_pool.specs.Ends.{ShowsEnd, AreBack, IsQuiet}
use Rattle.writer_pool.specs.Sealing.{EndsIn, EndsOn, leaf_in_slot}
use Rattle.writer_pool.proofs.Places.{some_is, same_number, eqb_self, there_or_past, get_map, get_map_back}
use Rattle.writer_pool.proofs.Closings.{own_notes}
use Rattle.writer_pool.proofs.Resting.{TakesPath, ClosesPath, ended_at}
use Rattle.writer_pool.proofs.Rows.{BacksPath, KeepsPaths, KeepsNone, none_with_driver}
use Rattle.writer_pool.proofs.Acting.{back_at}

-- where an entry of an actor stands in its own list, behind just those of the actor that came before it
record OwnPlace {E : Type 0} (h : List (ℕ × E)) (a i : ℕ) (e : E) : Type 0 where
  pub place : ℕ
  pub there : slice_get (own a h) place ≡ Some e
  pub before : (j : ℕ) (f : E) → j < i → slice_get h j ≡ Some (a, f)
      → (k : ℕ) × (k < place) × (slice_get (own a h) k ≡ Some f)
  pub back : (k : ℕ) (f : E) → k < place → slice_get (own a h) k ≡ Some f
      → (j : ℕ) × (j < i) × (slice_get h j ≡ Some (a, f))

module _ {E : Type 0} where
  own_first : (a : ℕ) (x : ℕ × E) (xs : List (ℕ × E)) (e : E) → x ≡ (a, e) → OwnPlace (x ∷ xs) a zero e
  own_first a x xs e is =
      let here : (x.0 == a) ≡ true = ap (λ (y : ℕ × E). y.0 == a) is ∙ eqb_self a in
      let list : own a (x ∷ xs) ≡ x.1 ∷ own a xs = ap (λ (b : Bool). cond b (x.1 ∷ own a xs) (own a xs)) here in
      record {
        place = zero;
        there = ap (λ (l : List E). slice_get l zero) list ∙ ap (λ (y : ℕ × E). Some y.1) is;
        before = λ j f lt at. absurd (omega (arith, lt));
        back = λ k f lt at. absurd (omega (arith, lt));
      }

  own_behind : (a : ℕ) (x : ℕ × E) (xs : List (ℕ × E)) (i : ℕ) (e : E) → OwnPlace xs a i e
      → OwnPlace (x ∷ xs) a (suc i) e
  own_behind a x xs i e r = go (x.0 == a) refl
    where
      go : (b : Bool) → (x.0 == a) ≡ b → OwnPlace (x ∷ xs) a (suc i) e
      go true here =
          let list : own a (x ∷ xs) ≡ x.1 ∷ own a xs = ap (λ (b : Bool). cond b (x.1 ∷ own a xs) (own a xs)) here in
          record {
            place = suc r.place;
            there = ap (λ (l : List E). slice_get l (suc r.place)) list ∙ r.there;
            before = λ j f lt at. first list j f lt at;
            back = λ k f lt at. first_back list k f lt at;
          }
        where
          first : own a (x ∷ xs) ≡ x.1 ∷ own a xs → (j : ℕ) (f : E) → j < suc i
              → slice_get (x ∷ xs) j ≡ Some (a, f)
              → (k : ℕ) × (k < suc r.place) × (slice_get (own a (x ∷ xs)) k ≡ Some f)
          first list zero f lt at =
              let is : x ≡ (a, f) = cc (at) in
              (zero, omega arith, ap (λ (l : List E). slice_get l zero) list ∙ ap (λ (y : ℕ × E). Some y.1) is)
          first list (suc j) f lt at =
              let q = r.before j f (omega (arith, lt)) at in
              let less = q.1 in
              (suc q.0, omega (arith, less), ap (λ (l : List E). slice_get l (suc q.0)) list ∙ q.2)

          first_back : own a (x ∷ xs) ≡ x.1 ∷ own a xs → (k : ℕ) (f : E) → k < suc r.place
              → slice_get (own a (x ∷ xs)) k ≡ Some f
              → (j : ℕ) × (j < suc i) × (slice_get (x ∷ xs) j ≡ Some (a, f))
          first_back list zero f lt at =
              let is : x.1 ≡ f = some_is x.1 f (sym (ap (λ (l : List E). slice_get l zero) list) ∙ at) in
              let seat = same_number x.0 a here in
              (zero, omega arith, ap (λ (y : ℕ × E). Some y) (λ k. (seat k, is k)))
          first_back list (suc k) f lt at =
              let q = r.back k f (omega (arith, lt)) (sym (ap (λ (l : List E). slice_get l (suc k)) list) ∙ at) in
              let less = q.1 in
              (suc q.0, omega (arith, less), q.2)
      go false here =
          let list : own a (x ∷ xs) ≡ own a xs = ap (λ (b : Bool). cond b (x.1 ∷ own a xs) (own a xs)) here in
          record {
            place = r.place;
            there = ap (λ (l : List E). slice_get l r.place) list ∙ r.there;
            before = λ j f lt at. other list j f lt at;
            back = λ k f lt at.
                let q = r.back k f lt (sym (ap (λ (l : List E). slice_get l k) list) ∙ at) in
                let less = q.1 in
                (suc q.0, omega (arith, less), q.2);
          }
        where
          other : own a (x ∷ xs) ≡ own a xs → (j : ℕ) (f : E) → j < suc i → slice_get (x ∷ xs) j ≡ Some (a, f)
              → (k : ℕ) × (k < r.place) × (slice_get (own a (x ∷ xs)) k ≡ Some f)
          other list zero f lt at = absurd (
              let is : x ≡ (a, f) = cc (at) in
              let same : (x.0 == a) ≡ true = ap (λ (y : ℕ × E). y.0 == a) is ∙ eqb_self a in
              cc (same, here))
          other list (suc j) f lt at =
              let q = r.before j f (omega (arith, lt)) at in
              (q.0, q.1, ap (λ (l : List E). slice_get l q.0) list ∙ q.2)

  own_place : (a : ℕ) (h : List (ℕ × E)) (i : ℕ) (e : E) → slice_get h i ≡ Some (a, e) → OwnPlace h a i e
  own_place a [] i e at = absurd (cc (at))
  own_place a (x ∷ xs) zero e at = own_first a x xs e (cc (at))
  own_place a (x ∷ xs) (suc i) e at = own_behind a x xs i e (own_place a xs i e at)

-- what an actor left, the history left
left_own : (p a : ℕ) (h : List (ℕ × HistoryEntry)) → is_left p (own_events (own a h)) ≡ true → is_left p (events_of h) ≡ true
left_own p a [] left = absurd (cc (left))
left_own p a (x ∷ xs) left = go (x.0 == a) left (leaves p x.1.event) refl (left_own p a xs)
  where
    go : (b : Bool) → is_left p (own_events (cond b (x.1 ∷ own a xs) (own a xs))) ≡ true → (l : Bool)
        → leaves p x.1.event ≡ l → (is_left p (own_events (own a xs)) ≡ true → is_left p (events_of xs) ≡ true)
        → (leaves p x.1.event || is_left p (events_of xs)) ≡ true
    go b left true is more = ap (λ (l : Bool). l || is_left p (events_of xs)) is
    go true left false is more = ap (λ (l : Bool). l || is_left p (events_of xs)) is
        ∙ more (sym (ap (λ (l : Bool). l || is_left p (own_events (own a xs))) is) ∙ left)
    go false left false is more = ap (λ (l : Bool). l || is_left p (events_of xs)) is ∙ more left

module _ {B L : Type 0} (see : Sight B L) where
  -- the events of a shelf's history are its own
  shelf_events : (starts : List Start) (workers : ℕ) (slots : List (Slot B L)) (es : List Event)
      → events_of (entries (tell see) starts workers slots es) ≡ es
  shelf_events starts workers slots [] = refl
  shelf_events starts workers slots (e ∷ es) = ap (λ (l : List Event). e ∷ l) (shelf_events starts workers slots es)

  entry_at : (starts : List Start) (workers : ℕ) (slots : List (Slot B L)) (es : List Event) (i : ℕ) (e : Event)
      → slice_get es i ≡ Some e
      → slice_get (entries (tell see) starts workers slots es) i
      ≡ Some (number_in starts workers e, entry_of (tell see) slots e)
  entry_at starts workers slots es i e at =
      get_map (λ (x : Event). (number_in starts workers x, entry_of (tell see) slots x)) es i e at

  -- The card of a Close, by what its actor's own list shows.
  pub record CardEnd (starts : List Start) (history : List Event) (cards : List (Card B L)) (i p a : ℕ) (o : Own)
      (b : B) (l : L) : Type 0 where
    pub number : ℕ
    pub card : Card B L
    pub planned : slice_get cards number ≡ Some card
    pub path : card.path ≡ p
    pub ends : EndsCard starts history i p a o (seen see card) (see.blob b) (see.leaf l)

  -- A Close of the history, and its place in its actor's own list.
  record OwnClose (d : BookPlan B L) (s : Shelf B L) (mine : List HistoryEntry) (i p a : ℕ) (o : Own) : Type 0 where
    pub is : own a (history_of (tell see) s) ≡ mine
    pub at : OwnPlace (history_of (tell see) s) a i (entry_of (tell see) s.slots.items (Close p a o))
    pub shown : ShowsEnd see d (own_events mine) at.place p a o
        (entry_of (tell see) s.slots.items (Close p a o)).parts

  -- the claims before it in the history are those before it in the own list
  claim_own : (d : BookPlan B L) (s : Shelf B L) (mine : List HistoryEntry) (i p a : ℕ) (o : Own) (c : OwnClose d s mine i p a o)
      → (j : ℕ) → j < i → slice_get s.events.items j ≡ Some (Claim p a)
      → (k : ℕ) × (k < c.at.place) × (slice_get (own_events mine) k ≡ Some (Claim p a))
  claim_own d s mine i p a o c j lt claim =
      let x = entry_of (tell see) s.slots.items (Claim p a) in
      let e = entry_at s.starts.value.items s.workers s.slots.items s.events.items j (Claim p a) claim in
      let k = c.at.before j x lt e in (
        k.0,
        k.1,
        get_map (λ (x : HistoryEntry). x.event) mine k.0 x (ap (λ (l : List HistoryEntry). slice_get l k.0) (sym c.is) ∙ k.2),
      )

  claim_back : (d : BookPlan B L) (s : Shelf B L) (mine : List HistoryEntry) (i p a : ℕ) (o : Own)
      (c : OwnClose d s mine i p a o) → (k : ℕ) → k < c.at.place → slice_get (own_events mine) k ≡ Some (Claim p a)
      → (j : ℕ) × (j < i) × (slice_get s.events.items j ≡ Some (Claim p a))
  claim_back d s mine i p a o c k lt claim =
      let x = get_map_back (λ (e : HistoryEntry). e.event) mine k (Claim p a) claim in
      let j = c.at.back k x.0 lt (ap (λ (l : List HistoryEntry). slice_get l k) c.is ∙ x.1) in
      let y = get_map_back (λ (e : Event).
      (number_in s.starts.value.items s.workers e, entry_of (tell see) s.slots.items e)) s.events.items j.0
      (a, x.0) j.2 in
      (j.0, j.1, y.1 ∙ ap (λ (e : Event). Some e) (ap (λ (z : ℕ × HistoryEntry). z.1.event) y.2 ∙ x.2))

  -- so a card was had from the book, or never left its desk, by both or by none
  book_back : (d : BookPlan B L) (s : Shelf B L) (mine : List HistoryEntry) (i p a : ℕ) (o : Own)
      (c : OwnClose d s mine i p a o) → IsFromBook d.starts.items (own_events mine) c.at.place p a
      → IsFromBook d.starts.items s.events.items i p a
  book_back d s mine i p a o c from = ⊎_elim
      (λ (pool : slice_get d.starts.items p ≡ Some Pool). inl pool)
      (λ (claim : (k : ℕ) × (k < c.at.place) × (slice_get (own_events mine) k ≡ Some (Claim p a))).
      inr (claim_back d s mine i p a o c claim.0 claim.1 claim.2))
      from

  desk_back : (d : BookPlan B L) (s : Shelf B L) (mine : List HistoryEntry) (i p a q : ℕ) (required : Bool) (o : Own)
      (c : OwnClose d s mine i p a o) → IsFromDesk d.starts.items (own_events mine) c.at.place p a q required
      → IsFromDesk d.starts.items s.events.items i p a q required
  desk_back d s mine i p a q required o c from = record {
    begun = from.begun;
    unclaimed = λ j lt claim.
        let k = claim_own d s mine i p a o c j lt claim in
        from.unclaimed k.0 k.1 k.2;
  }

  own_desk : (d : BookPlan B L) (s : Shelf B L) (mine : List HistoryEntry) (i p a q : ℕ) (required : Bool) (o : Own)
      (c : OwnClose d s mine i p a o) → IsFromDesk d.starts.items s.events.items i p a q required
      → IsFromDesk d.starts.items (own_events mine) c.at.place p a q required
  own_desk d s mine i p a q required o c from = record {
    begun = from.begun;
    unclaimed = λ k lt claim.
        let j = claim_back d s mine i p a o c k lt claim in
        from.unclaimed j.0 j.1 j.2;
  }

  -- the notes of a driver are those of its desk's own list
  mine_notes : (d : BookPlan B L) (s : Shelf B L) (mine : List HistoryEntry) (q a : ℕ) → plan_of s ≡ d → a ≡ d.workers + q
      → own a (history_of (tell see) s) ≡ mine
      → notes d.starts.items q (own_events mine) ≡ notes d.starts.items q s.events.items
  mine_notes d s mine q a plan seat is =
      let desk : s.workers + q ≡ a = ap (λ (x : BookPlan B L). x.workers + q) plan ∙ sym seat in
      let same : own (s.workers + q) (history_of (tell see) s) ≡ mine =
      ap (λ (n : ℕ). own n (history_of (tell see) s)) desk ∙ is in
      subst (λ (x : BookPlan B L). notes x.starts.items q (own_events mine) ≡ notes x.starts.items q s.events.items) plan
      (ap (λ (es : List HistoryEntry). notes s.starts.value.items q (own_events es)) (sym same)
      ∙ own_notes (tell see) s.starts.value.items s.workers q s.slots.items s.events.items)

  own_end : (d : BookPlan B L) (s : Shelf B L) (mine : List HistoryEntry) (i p a : ℕ) (o : Own) (b : B) (l : L)
      → plan_of s ≡ d → OwnClose d s mine i p a o → slice_get s.slots.items p ≡ Some (Ended b l)
      → CardEnd d.starts.items s.events.items (cards_of d) i p a o b l
  own_end d s mine i p a o b l plan c slot =
      let w = c.shown in
      let parts : w.ended ≡ tell see b l = some_is w.ended (tell see b l)
      (sym w.there ∙ ap (λ (x : Option (Slot B L)). parts_at (tell see) x) slot) in
      let ends = subst (λ (x : Parts). EndsCard d.starts.items (own_events mine) c.at.place p a o (seen see w.card)
      (blob_in x) (leaf_in x)) parts w.ends in
      record {
        number = w.number;
        card = w.card;
        planned = w.planned;
        path = w.path;
        ends = ⊎_elim
            (λ (h : IsFromBook d.starts.items (own_events mine) c.at.place p a
            × WritesCard (seen see w.card) o (see.blob b) (see.leaf l)).
            inl (book_back d s mine i p a o c h.0, h.1))
            (λ (h : EndsAtDesk d.starts.items (own_events mine) c.at.place p a o (seen see w.card) (see.blob b)
            (see.leaf l)).
            let notes_are = mine_notes d s mine h.driver a plan (w.desk h.driver h.required h.desk) c.is in
            inr (record {
              driver = h.driver;
              required = h.required;
              desk = desk_back d s mine i p a h.driver h.required o c h.desk;
              serves = subst (λ (es : List Event). ServesCard h.required (fate_of p Untold es) (seen see w.card) o
                  (see.blob b) (see.leaf l)) notes_are h.serves;
            }))
            ends;
      }

  -- an entry of the history, in its actor's own list
  record OwnEntry (s : Shelf B L) (ts : List (SeatView HistoryEntry (BookPlan B L))) (i a : ℕ) (e : Event) : Type 0 where
    pub pass : SeatView HistoryEntry (BookPlan B L)
    pub there : slice_get ts a ≡ Some pass
    pub is : own a (history_of (tell see) s) ≡ mine_of pass
    pub at : OwnPlace (history_of (tell see) s) a i (entry_of (tell see) s.slots.items e)
    pub mine : slice_get (mine_of pass) at.place ≡ Some (entry_of (tell see) s.slots.items e)

  own_entry : (d : BookPlan B L) (ts : List (SeatView HistoryEntry (BookPlan B L))) (s : Shelf B L) → IsFinished see d ts s
      → (i a : ℕ) (e : Event) → slice_get s.events.items i ≡ Some e → number_in s.starts.value.items s.workers e ≡ a
      → OwnEntry s ts i a e
  own_entry d ts s f i a e at by = ⊎_elim
      (λ (t : (x : SeatView HistoryEntry (BookPlan B L)) × (slice_get ts a ≡ Some x)).
      let mine : own a h ≡ mine_of t.0 = f.mine a t.0 t.1 in
      record {
        pass = t.0;
        there = t.1;
        is = mine;
        at = own_at;
        mine = ap (λ (l : List HistoryEntry). slice_get l own_at.place) (sym mine) ∙ own_at.there;
      })
      (λ (past : length ts ≤ a).
      let none = f.none a past in
      let u : None ≡ Some x = sym (ap (λ (l : List HistoryEntry). slice_get l own_at.place) none) ∙ own_at.there in
      absurd (cc (u)))
      (there_or_past ts a)
    where
      h : List (ℕ × HistoryEntry)
      h = history_of (tell see) s

      x : HistoryEntry
      x = entry_of (tell see) s.slots.items e

      own_at : OwnPlace h a i x
      own_at = own_place a h i x
          (entry_at s.starts.value.items s.workers s.slots.items s.events.items i e at
          ∙ ap (λ (n : ℕ). Some (n, x)) by)

  -- a Close of the history is one of its actor's own list
  own_close : (lock : TableId) (d : BookPlan B L) (made : ℕ) (ts : List (SeatView HistoryEntry (BookPlan B L))) (s : Shelf B L)
      → AreBack see lock d 0 made ts → IsFinished see d ts s → (i p a : ℕ) (o : Own)
      → slice_get s.events.items i ≡ Some (Close p a o)
      → (x : SeatView HistoryEntry (BookPlan B L)) × (slice_get ts a ≡ Some x) × OwnClose d s (mine_of x) i p a o
  own_close lock d made ts s back f i p a o at =
      let c = own_entry d ts s f i a (Close p a o) at refl in
      let k = back_at see lock d 0 made ts a c.pass back c.there in (
        c.pass,
        c.there,
        record {
          is = c.is;
          at = c.at;
          shown = k.1.shown c.at.place (entry_of (tell see) s.slots.items (Close p a o)) p a o c.mine refl;
        },
      )

  -- what a desk's own list says of what it handed back
  finished_backs : (lock : TableId) (d : BookPlan B L) (made : ℕ) (ts : List (SeatView HistoryEntry (BookPlan B L)))
      (s : Shelf B L) → AreBack see lock d 0 made ts → IsFinished see d ts s
      → RefusedBacks d.starts.items s.events.items
  finished_backs lock d made ts s back f i p q required at begun =
      let driver = ap (λ (o : Option Start). elim o as (λ _. Option ℕ) [ None ↦ None | Some s ↦ own_driver s ]) begun in
      let by = subst (λ (x : BookPlan B L). number_in x.starts.items x.workers (HandBack p) ≡ d.workers + q)
      (sym f.plan) (ap (λ (o : Option ℕ). number_or (seat d.workers o)) driver) in
      let c = own_entry d ts s f i (d.workers + q) (HandBack p) at by in
      let k = back_at see lock d 0 made ts (d.workers + q) c.pass back c.there in
      let r = k.1.backs c.at.place p q required
      (get_map (λ (x : HistoryEntry). x.event) (mine_of c.pass) c.at.place (entry_of (tell see) s.slots.items (HandBack p))
      c.mine) begun in
      (r.0, r.1, ap (fate_of p Untold) (sym (mine_notes d s (mine_of c.pass) q (d.workers + q) f.plan refl c.is)) ∙ r.2)

  close_shown : (lock : TableId) (d : BookPlan B L) (made : ℕ) (ts : List (SeatView HistoryEntry (BookPlan B L))) (s : Shelf B L)
      → AreBack see lock d 0 made ts → IsFinished see d ts s → (i p a : ℕ) (o : Own) (b : B) (l : L)
      → slice_get s.events.items i ≡ Some (Close p a o) → slice_get s.slots.items p ≡ Some (Ended b l)
      → CardEnd d.starts.items s.events.items (cards_of d) i p a o b l
  close_shown lock d made ts s back f i p a o b l at slot =
      let c = own_close lock d made ts s back f i p a o at in
      own_end d s (mine_of c.0) i p a o b l f.plan c.2 slot

  slot_of : (o : Option (Slot B L)) (l : L) → leaf_in_slot o ≡ Some l → (b : B) × (o ≡ Some (Ended b l))
  slot_of None l e = absurd (cc (e))
  slot_of (Some Away) l e = absurd (cc (e))
  slot_of (Some (Waits c)) l e = absurd (cc (e))
  slot_of (Some (Ended b k)) l e = (b, ap (λ (z : L). Some (Ended b z)) (some_is k l e))

  -- the leaf of a card that a desk closed, by the history, is one of those that its own list tells of
  pub seals_own : (lock : TableId) (d : BookPlan B L) (made : ℕ) (ts : List (SeatView HistoryEntry (BookPlan B L))) (s : Shelf B L)
      → AreBack see lock d 0 made ts → IsFinished see d ts s → (q : ℕ) (t : SeatView HistoryEntry (BookPlan B L))
      → slice_get ts (d.workers + q) ≡ Some t → (p : ℕ) (leaf : LeafSeen) → EndsOn see s q p leaf
      → EndsIn (mine_of t) p leaf
  seals_own lock d made ts s back f q t at p leaf z =
      let c = own_close lock d made ts s back f z.place p z.actor z.own z.entry in
      let own_from = own_desk d s (mine_of c.0) z.place p z.actor q z.required z.own c.2
      (subst (λ (x : BookPlan B L). IsFromDesk x.starts.items s.events.items z.place p z.actor q z.required) f.plan
      z.desk) in
      let seat = c.2.shown.desk q z.required own_from in
      let same : c.0 ≡ t = some_is c.0 t (sym c.1 ∙ (ap (slice_get ts) seat ∙ at)) in
      let slot = slot_of (slice_get s.slots.items p) z.leaf z.there in
      subst (λ (x : SeatView HistoryEntry (BookPlan B L)). EndsIn (mine_of x) p leaf) same (record {
        place = c.2.at.place;
        actor = z.actor;
        own = z.own;
        ended = tell see slot.0 z.leaf;
        here = ap (λ (l : List HistoryEntry). slice_get l c.2.at.place) (sym c.2.is)
            ∙ (c.2.at.there
            ∙ ap (λ (o : Option (Slot B L)).
            Some (record { event = Close p z.actor z.own; parts = parts_at (tell see) o })) slot.1);
        unclaimed = own_from.unclaimed;
        is = z.is;
      })

  -- the desks left each path of their drivers
  all_left : (lock : TableId) (d : BookPlan B L) (made : ℕ) (ts : List (SeatView HistoryEntry (BookPlan B L))) (s : Shelf B L)
      → AreBack see lock d 0 made ts → length ts ≡ d.workers + d.drivers → IsFinished see d ts s → (q p : ℕ)
      → q < d.drivers → contains p (paths_of q d.starts.items) ≡ true → is_left p s.events.items ≡ true
  all_left lock d made ts s back long f q p lt own_path = ⊎_elim
      (λ (t : (x : SeatView HistoryEntry (BookPlan B L)) × (slice_get ts (d.workers + q) ≡ Some x)).
      let b = back_at see lock d 0 made ts (d.workers + q) t.0 back t.1 in
      let left = b.1.left q p lt (omega arith) own_path in
      subst (λ (es : List Event). is_left p es ≡ true)
      (shelf_events s.starts.value.items s.workers s.slots.items s.events.items)
      (left_own p (d.workers + q) (history_of (tell see) s)
      (subst (λ (es : List HistoryEntry). is_left p (own_events es) ≡ true) (sym (f.mine (d.workers + q) t.0 t.1)) left)))
      (λ (past : length ts ≤ d.workers + q). absurd (omega (arith, lt, past, long)))
      (there_or_past ts (d.workers + q))

  pub quieted : TakesPath → ClosesPath → BacksPath → KeepsPaths → KeepsNone → (lock : TableId) (d : BookPlan B L)
      (made : ℕ) (ts : List (SeatView HistoryEntry (BookPlan B L))) (s : Shelf B L) → AreBack see lock d 0 made ts
      → 0 < length ts → length ts ≡ d.workers + d.drivers → IsFinished see d ts s → IsQuiet see s
  quieted takes closes backs keeps none lock d made ts s back some long f = record {
    goes_on = record {
      sound = f.sound;
      room = f.room;
      some = subst (λ (x : BookPlan B L). 0 < x.workers + x.drivers) (sym f.plan) (omega (arith, some, long));
    };
    hands = f.hands;
    away = none_with_driver takes closes backs keeps none s.starts.value.items s.workers s.drivers s.events.items s.core
        f.sound.below f.sound.run
        (subst (λ (x : BookPlan B L). (q p : ℕ) → q < x.drivers → contains p (paths_of q x.starts.items) ≡ true
        → is_left p s.events.items ≡ true) (sym f.plan) (all_left lock d made ts s back long f));
    backs = subst (λ (x : BookPlan B L). RefusedBacks x.starts.items s.events.items) (sym f.plan)
        (finished_backs lock d made ts s back f);
    closed = λ i p a o at.
        let e = ended_at s.slots.items s.events.items i p a o f.sound.ended at in
        let c = subst (λ (x : BookPlan B L). CardEnd x.starts.items s.events.items (cards_of x) i p a o e.0 e.1)
        (sym f.plan) (close_shown lock d made ts s back f i p a o e.0 e.1 at e.2) in
        (e.0, e.1, e.2, c.number, c.card, c.planned, c.path, c.ends);
  }
