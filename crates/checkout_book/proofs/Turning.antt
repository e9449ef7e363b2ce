-- A turn at the book.
use Rattle.std.proofs.Common.{◌≡◌, ◌==◌, ℕ, ◌+◌, ◌<◌, inl, inr, ⊎_elim, Bool, true, false, cond, List, []}
use Rattle.std.proofs.Common.{◌∷◌, ◌++◌, set, Option, Some, None, refl, sym, ap, ◌∙◌, subst, arith}
use Rattle.std.specs.Prelude.{slice_get, IfSome, IfNone}
use mathlib.Core.List.{map-append}
use Rattle.atomic_table.specs.Seated.{TableId}
use Rattle.turn_lock.specs.History.{own, Begins, Follows}
use Rattle.turn_lock.specs.Seat.{SeatView, seen_of, mine_of, turns_of, entered, left}
use Rattle.turn_lock.specs.Seats.{IsSeat}
use Rattle.convert_plan.specs.declared.card.Card.{Card}
use Rattle.checkout_core.specs.declared.verdict.FilterCause.{FilterCause}
use Rattle.checkout_core.specs.declared.verdict.Own.{Own}
use Rattle.checkout_core.specs.declared.path.PathState.{PathState}
use Rattle.checkout_core.specs.declared.path.PathState.TheVariants.{Waiting, Held, Closed}
use Rattle.checkout_core.specs.declared.path.Path.{Path}
use Rattle.checkout_core.specs.declared.event.Event.{Event}
use Rattle.checkout_core.specs.declared.event.Event.TheVariants.{Claim, Close, HandBack}
use Rattle.checkout_core.specs.States.{Core, AreBelow, with_state}
use Rattle.checkout_core.specs.Actors.{actor_of}
use Rattle.checkout_core.specs.Hands.{is_held, held_at, Holds}
use Rattle.core_laws.specs.Moves.{Moved, RowStays, StaysOr, is_with_driver}
use Rattle.checkout_core.specs.Notes.{is_noted}
use Rattle.checkout_book.specs.declared.plan.BookPlan.{BookPlan}
use Rattle.checkout_book.specs.declared.plan.HistoryEntry.{HistoryEntry}
use Rattle.checkout_book.specs.declared.shelf.Slot.{Slot}
use Rattle.checkout_book.specs.declared.shelf.Slot.TheVariants.{Away, Waits, Ended}
use Rattle.checkout_book.specs.Shape.{Shelf}
use Rattle.checkout_book.specs.Sights.{Sight, tell}
use Rattle.checkout_book.specs.Entries.{number_or, number_in, entries, entry_of, parts_at, history_of}
use Rattle.checkout_book.specs.Shelves.{is_waiting, waits, cards_of, plan_of, IsSound, IsPlanned, IsFrom, IsOut}
use Rattle.checkout_book.specs.Ending.{IsTaken}
use Rattle.checkout_book.specs.Turns.{NoneWaits, Turned, Claimed, Unclaimed, Noted}
use Rattle.checkout_book.specs.Passes.{IsRun, IsPass, IsTurned, Keeps, Claims, Closes, Appends}
use Rattle.checkout_book.specs.Passes.{EndsWith, claim_entry, close_entry, note_entry}
use Rattle.convert_plan.specs.Card.{CardSeen}
use Rattle.checkout_book.proofs.Lists.{get_set_same}
use Rattle.checkout_book.proofs.Runs.{eqb_self, same_number, hands_moved, moved_here, moved_there, with_not_held}
use Rattle.checkout_book.proofs.Entries.{NotEnded, entries_more, note_parts}
use Rattle.checkout_book.proofs.Sounding.{waited, close_away, back_away, slot_at, waits_not}
use Rattle.checkout_book.proofs.Histories.{own_more, follows_more, same_hands, still_holds, reads_of}
use Rattle.checkout_book.proofs.CoreLaws.{TakesPath, ClosesPath, BacksPath, KeepsPaths, TellsHands, HandsStay, KeepsSeat}

module _ {B L : Type 0} (see : Sight B L) where
  pub out_from : (cards : List (Card B L)) (card : Card B L) → IsOut see cards card
      → IsFrom see cards card.path card.blob card.leaf
  out_from cards card out = (
    out.0,
    out.1,
    out.2,
    sym (ap (λ (z : CardSeen). z.path) out.3),
    ap (λ (z : CardSeen). z.told) out.3,
    ap (λ (z : CardSeen). z.blob.name) out.3,
    ap (λ (z : CardSeen). z.leaf.path) out.3,
  )

  -- the history of a shelf, by its parts
  at_plan : BookPlan B L → List (Slot B L) → List Event → List (ℕ × HistoryEntry)
  at_plan d slots es = entries (tell see) d.starts.items d.workers slots es

  grown : (e : Event) (p : ℕ) (x : Slot B L) (v w : Shelf B L) → Turned e p x v w → IsSound see v
      → NotEnded v.slots.items p
      → history_of (tell see) w ≡ history_of (tell see) v
      ++ (number_in v.starts.value.items v.workers e, entry_of (tell see) (set v.slots.items p x) e) ∷ []
  unfolding at_plan
  grown e p x v w t sound n =
      ap (λ d. at_plan d w.slots.items w.events.items) t.plan
      ∙ (ap (λ l. at_plan (plan_of v) l w.events.items) t.slots
      ∙ (ap (at_plan (plan_of v) (set v.slots.items p x)) t.events
      ∙ entries_more (tell see) v.starts.value.items v.workers v.slots.items p x v.events.items e n sound.ended))

  pub claim_grown : (n : ℕ) (v w : Shelf B L) (k : Card B L) → Claimed n v w k → IsSound see v
      → history_of (tell see) w ≡ history_of (tell see) v ++ (n, claim_entry k.path n) ∷ []
  claim_grown n v w k c sound =
      grown (Claim k.path n) k.path Away v w c.turned sound (λ b l i. let a = c.was in cc (a, i))

  pub close_grown : ClosesPath → (n p : ℕ) (o : Own) (b : B) (l : L) (v w : Shelf B L)
      → Turned (Close p n o) p (Ended b l) v w → IsSound see v
      → history_of (tell see) w ≡ history_of (tell see) v ++ (n, close_entry p n o (tell see b l)) ∷ []
  close_grown law n p o b l v w t sound =
      let away = close_away see law (plan_of v) v.core w.core v.events.items v.slots.items v.waiting _ p n o sound
      t.step in
      grown (Close p n o) p (Ended b l) v w t sound (λ b l i. cc (away, i))
      ∙ ap (λ (z : Option (Slot B L)). history_of (tell see) v ++ (
        n,
        record {
          event = Close p n o;
          parts = parts_at
              (tell see) z;
        },
      ) ∷ [])
      (get_set_same v.slots.items p (Ended b l) Away away)

  pub note_grown : (n : ℕ) (e : Event) (v w : Shelf B L) → Noted e v w → is_noted e ≡ true
      → actor_of v.starts.value.items v.workers e ≡ Some n
      → history_of (tell see) w ≡ history_of (tell see) v ++ (n, note_entry e) ∷ []
  unfolding at_plan
  note_grown n e v w t noted by =
      ap (λ d. at_plan d w.slots.items w.events.items) t.plan
      ∙ (ap (λ l. at_plan (plan_of v) l w.events.items) t.slots
      ∙ (ap (at_plan (plan_of v) v.slots.items) t.events
      ∙ (map-append (λ e. (number_in v.starts.value.items v.workers e, entry_of (tell see) v.slots.items e))
      v.events.items (e ∷ [])
      ∙ (ap (λ z. history_of (tell see) v ++ (
        number_in v.starts.value.items v.workers e,
        record {
          event = e;
          parts =
              z;
        },
      ) ∷ [])
      (note_parts (tell see) v.slots.items e noted)
      ∙ ap (λ k. history_of (tell see) v ++ (number_or k, note_entry e) ∷ []) by))))

  pub back_grown : BacksPath → (n : ℕ) (card : Card B L) (v w : Shelf B L)
      → Turned (HandBack card.path) card.path (Waits card) v w → IsSound see v
      → actor_of v.starts.value.items v.workers (HandBack card.path) ≡ Some n
      → history_of (tell see) w ≡ history_of (tell see) v ++ (n, note_entry (HandBack card.path)) ∷ []
  back_grown law n card v w t sound by =
      let away = back_away see law (plan_of v) v.core w.core v.events.items v.slots.items v.waiting _ card.path sound
      t.step in
      grown (HandBack card.path) card.path (Waits card) v w t sound (λ b l i. cc (away, i))
      ∙ ap (λ k. history_of (tell see) v ++ (number_or k, note_entry (HandBack card.path)) ∷ []) by

  pub claim_follows : (n : ℕ) (v w : Shelf B L) (o : Option (Card B L)) → IsSound see v → IfNone o (Unclaimed v w)
      → IfSome o (Claimed n v w) → Follows n (history_of (tell see) v) (history_of (tell see) w)
  claim_follows n v w None sound nil one = inl (ap (history_of (tell see)) nil.same)
  claim_follows n v w (Some k) sound nil one = inr (claim_entry k.path n, claim_grown n v w k one sound)

  pub claim_plan : (n : ℕ) (v w : Shelf B L) (o : Option (Card B L)) → IfNone o (Unclaimed v w)
      → IfSome o (Claimed n v w) → plan_of w ≡ plan_of v
  claim_plan n v w None nil one = ap (λ (z : Shelf B L). plan_of z) nil.same
  claim_plan n v w (Some k) nil one = one.turned.plan

  -- A turn of the pass: the shelf v was found, and w was put back.
  pub record Went (lock : TableId) (d : BookPlan B L) (n made : ℕ) (s0 s2 : SeatView HistoryEntry (BookPlan B L)) (c : Core)
      (v w : Shelf B L) : Type 0 where
    pub pass : IsPass lock d n made s0 c
    pub is : plan_of v ≡ d
    pub sound : IsSound see v
    pub later : IsSound see w
    pub mine : mine_of s0 ≡ own n (history_of (tell see) v)
    pub begins : Begins (seen_of s0) (history_of (tell see) v)
    pub left : IsSeat lock d n made s2
    pub seen : seen_of s2 ≡ history_of (tell see) w
    pub made_now : mine_of s2 ≡ own n (history_of (tell see) w)
    pub turns : turns_of s2 ≡ turns_of s0 + 1

  pub went : KeepsSeat HistoryEntry (BookPlan B L) → (lock : TableId) (d : BookPlan B L) (n made : ℕ)
      (s0 s1 s2 : SeatView HistoryEntry (BookPlan B L)) (c : Core) (v w : Shelf B L) → IsPass lock d n made s0 c
      → s1 ≡ entered (history_of (tell see) v) s0 → s2 ≡ left (history_of (tell see) w) s1 → plan_of v ≡ d
      → IsSound see v → IsSound see w → mine_of s0 ≡ own n (history_of (tell see) v)
      → Begins (seen_of s0) (history_of (tell see) v) → Went lock d n made s0 s2 c v w
  went law lock d n made s0 s1 s2 c v w pass e l is sound later mine begins =
      let t = (law lock d n made (history_of (tell see) v) s0 s1 pass.seat e).turn (history_of (tell see) w) in
      record {
        pass = pass;
        is = is;
        sound = sound;
        later = later;
        mine = mine;
        begins = begins;
        left = subst (λ (s : SeatView HistoryEntry (BookPlan B L)). IsSeat lock d n made s) (sym l) t.0;
        seen = ap seen_of l ∙ t.1;
        made_now = ap mine_of l ∙ t.2;
        turns = ap turns_of l ∙ t.3;
      }

  turned : (lock : TableId) (d : BookPlan B L) (n made : ℕ) (s0 s2 : SeatView HistoryEntry (BookPlan B L)) (c : Core)
      (v w : Shelf B L) → Went lock d n made s0 s2 c v w → plan_of w ≡ plan_of v
      → Follows n (history_of (tell see) v) (history_of (tell see) w) → IsTurned lock d n made s0 s2 w.core
  turned lock d n made s0 s2 c v w t same follows = record {
    pass = record {
      seat = t.left;
      reads = subst (λ h. IsRun d h w.core) (sym t.seen) (reads_of see d w (same ∙ t.is) t.later);
      actor = t.pass.actor;
    };
    turns = t.turns;
    seen = subst (Begins (seen_of s0)) (sym t.seen)
        (follows_more n (seen_of s0) (history_of (tell see) v) (history_of (tell see) w) follows t.begins);
  }

  pub below_of : (d : BookPlan B L) (v : Shelf B L) → plan_of v ≡ d → IsSound see v → AreBelow d.drivers d.starts.items
  below_of d v is sound = subst (λ (x : BookPlan B L). AreBelow x.drivers x.starts.items) is sound.below

  -- what the pass had in hand when it came
  hands : TellsHands → (lock : TableId) (d : BookPlan B L) (n made : ℕ) (s0 s2 : SeatView HistoryEntry (BookPlan B L)) (c : Core)
      (v w : Shelf B L) → Went lock d n made s0 s2 c v w → (q : ℕ) → held_at v.core n q ≡ held_at c n q
  hands law lock d n made s0 s2 c v w t q = sym (same_hands law d n (seen_of s0) (history_of (tell see) v) c v.core
      (below_of d v t.is t.sound) t.pass.reads (reads_of see d v t.is t.sound)
      (sym (t.pass.seat).receipts ∙ t.mine) q)

  -- what the pass had in hand stays so until it came
  stayed : HandsStay → (lock : TableId) (d : BookPlan B L) (n made : ℕ) (s0 s2 : SeatView HistoryEntry (BookPlan B L)) (c : Core)
      (v w : Shelf B L) → Went lock d n made s0 s2 c v w → (q : ℕ) (raw : Option FilterCause) → Holds c q n raw
      → Holds v.core q n raw
  stayed law lock d n made s0 s2 c v w t q raw = still_holds law d n q raw (seen_of s0) (history_of (tell see) v) c
      v.core (below_of d v t.is t.sound) t.pass.reads (reads_of see d v t.is t.sound) t.begins
      (sym (t.pass.seat).receipts ∙ t.mine)

  -- and after a step on another path
  kept : HandsStay → (lock : TableId) (d : BookPlan B L) (n made : ℕ) (s0 s2 : SeatView HistoryEntry (BookPlan B L)) (c : Core)
      (v w : Shelf B L) (p : ℕ) (a b : PathState) → Went lock d n made s0 s2 c v w → Moved v.core w.core p a b
      → Keeps n c w.core p
  kept law lock d n made s0 s2 c v w p a b t m q raw other holds =
      let h = stayed law lock d n made s0 s2 c v w t q raw holds in
      (h.0, moved_there v.core w.core p q a b m other ∙ h.1, h.2)

  -- the pass got one entry
  mine_more : (lock : TableId) (d : BookPlan B L) (n made : ℕ) (s0 s2 : SeatView HistoryEntry (BookPlan B L)) (c : Core)
      (v w : Shelf B L) (e : HistoryEntry) → Went lock d n made s0 s2 c v w
      → history_of (tell see) w ≡ history_of (tell see) v ++ (n, e) ∷ [] → mine_of s2 ≡ mine_of s0 ++ e ∷ []
  mine_more lock d n made s0 s2 c v w e t more = t.made_now
      ∙ (ap (own n) more ∙ (own_more n (history_of (tell see) v) e ∙ ap (λ l. l ++ e ∷ []) (sym t.mine)))

  ends_with : (lock : TableId) (d : BookPlan B L) (n made : ℕ) (s0 s2 : SeatView HistoryEntry (BookPlan B L)) (c : Core)
      (v w : Shelf B L) (e : HistoryEntry) → Went lock d n made s0 s2 c v w
      → history_of (tell see) w ≡ history_of (tell see) v ++ (n, e) ∷ [] → EndsWith n e s0 s2
  ends_with lock d n made s0 s2 c v w e t more = (history_of (tell see) v, t.begins, t.seen ∙ more)

  -- no path below the one that was taken waits
  none_lower : (v w : Shelf B L) (p a : ℕ) (s u : PathState) → Moved v.core w.core p s u → IsSound see v
      → ((q : ℕ) (y : Slot B L) → q < p → slice_get v.slots.items q ≡ Some y → waits y ≡ false)
      → (q : ℕ) (r : Path) → q < p → slice_get w.core.paths q ≡ Some r → is_waiting r.state ≡ false
  none_lower v w p a s u m sound lowest q r lt at =
      let there = sym (moved_there v.core w.core p q s u m (λ e. omega (arith, lt, e))) ∙ at in
      let y = slot_at see (cards_of (plan_of v)) v.slots.items v.core q r sound.rows there in
      waits_not see (cards_of (plan_of v)) q y.0 r.state y.2 (lowest q y.0 lt y.1)

  -- a card that was taken from the shelf v, which is then w
  pub record Taken (n : ℕ) (v w : Shelf B L) (k : Card B L) : Type 0 where
    pub is : IsTaken see n w k
    pub raw : Option FilterCause
    pub moved : Moved v.core w.core k.path (Waiting raw) (Held n raw)

  pub taken : TakesPath → (n : ℕ) (v w : Shelf B L) (k : Card B L) → Claimed n v w k → IsSound see v → Taken n v w k
  taken path n v w k one sound =
      let wait = waited see (plan_of v) v.core v.events.items v.slots.items v.waiting _ k.path k sound one.was in
      let move = path v.core w.core k.path n one.turned.step in
      let m = move.1 in
      let row : m.row ≡ wait.row = let e : Some m.row ≡ Some wait.row = sym m.there ∙ wait.there in cc (e) in
      let raw : Waiting move.0 ≡ Waiting wait.raw = sym m.was ∙ (ap (λ (z : Path). z.state) row ∙ wait.state) in
      let same : move.0 ≡ wait.raw = cc (raw) in
      let here = moved_here v.core w.core k.path (Waiting move.0) (Held n move.0) m in
      record {
        is = record {
          planned = subst (λ (x : BookPlan B L). IsPlanned see (cards_of x) k) (sym one.turned.plan) wait.planned;
          raw = wait.raw;
          holds = (with_state m.row (Held n move.0), here, ap (λ z. Held n z) same);
          held = ap (λ (o : Option Path). elim o as (λ _. Bool) [ None ↦ false | Some r ↦ is_held n r.state ]) here
              ∙ eqb_self n;
          ready = wait.ready;
        };
        raw = move.0;
        moved = m;
      }

  pub taken_if : TakesPath → (n : ℕ) (v w : Shelf B L) (o : Option (Card B L)) → IfSome o (Claimed n v w)
      → IsSound see v → IfSome o (IsTaken see n w)
  taken_if path n v w None one sound = tt
  taken_if path n v w (Some k) one sound = (taken path n v w k one sound).is

  pub claim_grown_if : (n : ℕ) (v w : Shelf B L) (o : Option (Card B L)) → IfSome o (Claimed n v w) → IsSound see v
      → IfSome o (λ k. history_of (tell see) w ≡ history_of (tell see) v ++ (n, claim_entry k.path n) ∷ [])
  claim_grown_if n v w None one sound = tt
  claim_grown_if n v w (Some k) one sound = claim_grown n v w k one sound

  pub took : TellsHands → HandsStay → TakesPath → (lock : TableId) (d : BookPlan B L) (n made : ℕ)
      (s0 s2 : SeatView HistoryEntry (BookPlan B L)) (c : Core) (v w : Shelf B L) (o : Option (Card B L))
      → Went lock d n made s0 s2 c v w → IfNone o (Unclaimed v w) → IfSome o (Claimed n v w)
      → Claims see lock d n made s0 s2 c o
  took law stay path lock d n made s0 s2 c v w None t nil one = (
    w.core,
    record {
      turn = turned lock d n made s0 s2 c v w t (claim_plan n v w None nil one)
          (claim_follows n v w None t.sound nil one);
      mine = t.made_now ∙ (ap (λ (z : Shelf B L). own n (history_of (tell see) z)) nil.same ∙ sym t.mine);
      none = subst (λ (z : Shelf B L). NoneWaits z.core) (sym nil.same) nil.none;
      hands = λ q. ap (λ (z : Shelf B L). held_at z.core n q) nil.same ∙ hands law lock d n made s0 s2 c v w t q;
      keeps = λ q raw h. subst (λ (z : Shelf B L). Holds z.core q n raw) (sym nil.same)
          (stayed stay lock d n made s0 s2 c v w t q raw h);
    },
  )
  took law stay path lock d n made s0 s2 c v w (Some k) t nil one =
      let h = taken path n v w k one t.sound in (
        w.core,
        record {
          turn = turned lock d n made s0 s2 c v w t one.turned.plan (claim_follows n v w (Some k) t.sound nil one);
          mine = mine_more lock d n made s0 s2 c v w (claim_entry k.path n) t (claim_grown n v w k one t.sound);
          last = ends_with lock d n made s0 s2 c v w (claim_entry k.path n) t (claim_grown n v w k one t.sound);
          lowest = none_lower v w k.path n (Waiting h.raw) (Held n h.raw) h.moved t.sound one.lowest;
          planned = subst (λ (x : BookPlan B L). IsPlanned see (cards_of x) k) (one.turned.plan ∙ t.is) h.is.planned;
          raw = h.is.raw;
          holds = h.is.holds;
          ready = h.is.ready;
          hands = λ q. hands_moved v.core w.core k.path (Waiting h.raw) (Held n h.raw) n h.moved q
              ∙ (ap (λ (b : Bool). cond (q == k.path) b (held_at v.core n q)) (eqb_self n)
              ∙ ap (λ (b : Bool). cond (q == k.path) true b) (hands law lock d n made s0 s2 c v w t q));
          fresh = sym (hands law lock d n made s0 s2 c v w t k.path)
              ∙ (ap (λ (o : Option Path). elim o as (λ _. Bool) [ None ↦ false | Some r ↦ is_held n r.state ])
              h.moved.there ∙ ap (is_held n) h.moved.was);
          keeps = kept stay lock d n made s0 s2 c v w k.path (Waiting h.raw) (Held n h.raw) t h.moved;
        },
      )

  pub closed : TellsHands → HandsStay → ClosesPath → (lock : TableId) (d : BookPlan B L) (n made : ℕ)
      (s0 s2 : SeatView HistoryEntry (BookPlan B L)) (c : Core) (v w : Shelf B L) (p : ℕ) (o : Own) (b : B) (l : L)
      → Went lock d n made s0 s2 c v w → Turned (Close p n o) p (Ended b l) v w
      → Closes lock d n made s0 s2 c p o (tell see b l)
  closed law stay path lock d n made s0 s2 c v w p o b l t one =
      let more = close_grown path n p o b l v w one t.sound in
      let move = path v.core w.core p n o one.step in
      record {
        core = w.core;
        turn = turned lock d n made s0 s2 c v w t one.plan (inr (close_entry p n o (tell see b l), more));
        mine = mine_more lock d n made s0 s2 c v w (close_entry p n o (tell see b l)) t more;
        last = ends_with lock d n made s0 s2 c v w (close_entry p n o (tell see b l)) t more;
        hands = λ q. hands_moved v.core w.core p move.0 (Closed move.1) n move.2 q
            ∙ ap (λ (x : Bool). cond (q == p) false x) (hands law lock d n made s0 s2 c v w t q);
        keeps = kept stay lock d n made s0 s2 c v w p move.0 (Closed move.1) t move.2;
      }

  stays_unheld : (n : ℕ) (s t : PathState) → StaysOr s t → is_held n t ≡ is_held n s
  stays_unheld n s t h = ⊎_elim
      (λ (e : t ≡ s). ap (is_held n) e)
      (λ (k : (is_with_driver s ≡ true) × (is_with_driver t ≡ true)).
      with_not_held n t k.1 ∙ sym (with_not_held n s k.0))
      h

  row_unheld : (n : ℕ) (a b : Option Path) → RowStays a b
      → (elim b as (λ _. Bool) [ None ↦ false | Some r ↦ is_held n r.state ]) ≡
      (elim a as (λ _. Bool) [ None ↦ false | Some r ↦ is_held n r.state ])
  row_unheld n None None h = refl
  row_unheld n (Some r) (Some s) h = stays_unheld n r.state s.state h.1
  row_unheld n None (Some s) h = absurd h
  row_unheld n (Some r) None h = absurd h

  pub noted : TellsHands → KeepsPaths → (lock : TableId) (d : BookPlan B L) (n made : ℕ)
      (s0 s2 : SeatView HistoryEntry (BookPlan B L)) (c : Core) (v w : Shelf B L) (e : Event)
      → Went lock d n made s0 s2 c v w → is_noted e ≡ true → actor_of d.starts.items d.workers e ≡ Some n
      → Noted e v w → Appends lock d n made s0 s2 c e
  noted law path lock d n made s0 s2 c v w e t noted_is by one =
      let here : actor_of v.starts.value.items v.workers e ≡ Some n =
      subst (λ (x : BookPlan B L). actor_of x.starts.items x.workers e ≡ Some n) (sym t.is) by in
      let more = note_grown n e v w one noted_is here in
      record {
        core = w.core;
        turn = turned lock d n made s0 s2 c v w t one.plan (inr (note_entry e, more));
        mine = mine_more lock d n made s0 s2 c v w (note_entry e) t more;
        last = ends_with lock d n made s0 s2 c v w (note_entry e) t more;
        hands = λ q. row_unheld n (slice_get v.core.paths q) (slice_get w.core.paths q)
            (path v.core w.core e noted_is one.step q) ∙ hands law lock d n made s0 s2 c v w t q;
      }

  back_hands : (b x : Bool) → (b ≡ true → x ≡ false) → cond b false x ≡ x
  back_hands true x h = sym (h refl)
  back_hands false x h = refl

  pub backed : TellsHands → BacksPath → (lock : TableId) (d : BookPlan B L) (n made : ℕ)
      (s0 s2 : SeatView HistoryEntry (BookPlan B L)) (c : Core) (v w : Shelf B L) (card : Card B L)
      → Went lock d n made s0 s2 c v w → actor_of d.starts.items d.workers (HandBack card.path) ≡ Some n
      → Turned (HandBack card.path) card.path (Waits card) v w → Appends lock d n made s0 s2 c (HandBack card.path)
  backed law path lock d n made s0 s2 c v w card t by one =
      let e = HandBack card.path in
      let here : actor_of v.starts.value.items v.workers e ≡ Some n =
      subst (λ (x : BookPlan B L). actor_of x.starts.items x.workers e ≡ Some n) (sym t.is) by in
      let more = back_grown path n card v w one t.sound here in
      let move = path v.core w.core card.path one.step in
      let m = move.2 in
      record {
        core = w.core;
        turn = turned lock d n made s0 s2 c v w t one.plan (inr (note_entry e, more));
        mine = mine_more lock d n made s0 s2 c v w (note_entry e) t more;
        last = ends_with lock d n made s0 s2 c v w (note_entry e) t more;
        hands = λ q. hands_moved v.core w.core card.path move.0 (Waiting (Some move.1)) n m q
            ∙ (back_hands (q == card.path) (held_at v.core n q)
            (λ i. ap (held_at v.core n) (same_number q card.path i)
            ∙ (ap (λ (o : Option Path). elim o as (λ _. Bool) [ None ↦ false | Some r ↦ is_held n r.state ]) m.there
            ∙ (ap (is_held n) m.was ∙ with_not_held n move.0 move.3)))
            ∙ hands law lock d n made s0 s2 c v w t q);
      }
