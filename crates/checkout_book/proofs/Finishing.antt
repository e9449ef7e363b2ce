-- A book at its begin and at its end.
use Rattle.std.proofs.Common.{◌≡◌, ℕ, zero, suc, ◌+◌, ◌*◌, ◌<◌, ◌≤◌, ◌⊎◌, inl, inr, ⊎_elim, Bool, false, List, []}
use Rattle.std.proofs.Common.{◌∷◌, ◌++◌, set, length, length-set, map, Option, Some, None, All, refl, sym, ap, ◌∙◌}
use Rattle.std.proofs.Common.{subst, arith}
use Rattle.std.specs.Prelude.{slice_get, Result, Ok, Err, IfOk}
use mathlib.Core.Logic.{dite}
use native.Mathlib.Decide.{ℕ_discrete}
use Rattle.atomic_table.specs.Seated.{TableId}
use Rattle.turn_lock.specs.History.{own, Begins}
use Rattle.turn_lock.specs.Seat.{SeatView, mine_of, seen_of}
use Rattle.turn_lock.specs.Seats.{IsSeat, AreSeats}
use Rattle.convert_plan.specs.declared.card.Card.{Card}
use Rattle.tree_encoding.specs.declared.prepared.Prepared.{Prepared}
use Rattle.checkout_core.specs.declared.path.Start.{Start}
use Rattle.checkout_core.specs.declared.path.Start.TheVariants.{Pool, Desk, Done}
use Rattle.checkout_core.specs.declared.path.Path.{Path}
use Rattle.checkout_core.specs.declared.path.PathState.TheVariants.{Waiting}
use Rattle.checkout_core.specs.declared.event.Event.{Event}
use Rattle.checkout_core.specs.States.{Core, AreBelow, start, path_of, begins}
use Rattle.checkout_core.specs.Hands.{is_held, held_at}
use Rattle.checkout_book.specs.declared.plan.BookPlan.{BookPlan}
use Rattle.checkout_book.specs.declared.plan.HistoryEntry.{HistoryEntry}
use Rattle.checkout_book.specs.declared.shelf.Slot.{Slot}
use Rattle.checkout_book.specs.declared.shelf.Slot.TheVariants.{Away, Waits, Ended}
use Rattle.checkout_book.specs.Shape.{Shelf}
use Rattle.checkout_book.specs.Sights.{Sight, seen, tell}
use Rattle.checkout_book.specs.Entries.{history_of, events_of}
use Rattle.checkout_book.specs.Shelves.{cards_of, joined, plan_of, IsSound, HasRoom, Sound, IsRow, Lies, is_waiting}
use Rattle.checkout_book.specs.Shelves.{waits, WaitsSo}
use Rattle.checkout_book.specs.Passes.{IsRun}
use Rattle.checkout_book.specs.Reserving.{aways, placed, ArePool, AreNew, HasNothing, AreIdle, AreFresh, IsFinished}
use Rattle.checkout_book.proofs.Lists.{get_left, get_set_same, get_set_other, past_none}
use Rattle.checkout_book.proofs.Histories.{same_hands, own_events, reads_of}
use Rattle.checkout_book.proofs.Turning.{below_of}
use Rattle.checkout_book.proofs.CoreLaws.{TellsHands}

pub aways_more : {B L : Type 0} (n : ℕ) → aways {B = B} {L = L} n ++ Away ∷ [] ≡ aways (suc n)
aways_more zero = refl
aways_more (suc n) = ap (λ l. Away ∷ l) (aways_more n)

pub aways_length : (B L : Type 0) (n : ℕ) → length (aways {B = B} {L = L} n) ≡ n
aways_length B L zero = refl
aways_length B L (suc n) = ap suc (aways_length B L n)

module _ {B L : Type 0} where
  pub placed_more : (slots : List (Slot B L)) (cs : List (Card B L)) (c : Card B L)
      → placed slots (cs ++ c ∷ []) ≡ set (placed slots cs) c.path (Waits c)
  placed_more slots [] c = refl
  placed_more slots (x ∷ cs) c = placed_more (set slots x.path (Waits x)) cs c

  pub placed_length : (slots : List (Slot B L)) (cs : List (Card B L)) → length (placed slots cs) ≡ length slots
  placed_length slots [] = refl
  placed_length slots (c ∷ cs) = placed_length (set slots c.path (Waits c)) cs ∙ length-set slots c.path (Waits c)

  pub seats_of : (lock : TableId) (d : BookPlan B L) (k made : ℕ) (ss : List (SeatView HistoryEntry (BookPlan B L)))
      → AreIdle lock d k made ss → AreSeats lock d k made ss
  seats_of lock d k made [] a = tt
  seats_of lock d k made (s ∷ ss) a = (a.0.1.seat, seats_of lock d (suc k) 0 ss a.1)

  idle_at : (lock : TableId) (d : BookPlan B L) (k made : ℕ) (ss : List (SeatView HistoryEntry (BookPlan B L))) (i : ℕ)
      (s : SeatView HistoryEntry (BookPlan B L)) → AreIdle lock d k made ss → slice_get ss i ≡ Some s
      → (m : ℕ) × HasNothing lock d (k + i) m s
  idle_at lock d k made [] i s a e = absurd (cc (e))
  idle_at lock d k made (x ∷ ss) zero s a e =
      let is : x ≡ s = cc (e) in
      let n : k ≡ k + zero = omega arith in
      (made, subst (λ j. HasNothing lock d j made s) n (subst (HasNothing lock d k made) is a.0))
  idle_at lock d k made (x ∷ ss) (suc i) s a e =
      let r = idle_at lock d (suc k) 0 ss i s a.1 e in
      let n : suc k + i ≡ k + suc i = omega arith in
      (r.0, subst (λ j. HasNothing lock d j r.0 s) n r.1)

begins_free : (a : ℕ) (s : Start) → is_held a (begins s) ≡ false
begins_free a Pool = refl
begins_free a (Desk d b) = refl
begins_free a (Done v) = refl

start_free : (starts : List Start) (workers drivers a q : ℕ) → held_at (start starts workers drivers) a q ≡ false
start_free starts workers drivers a q = go starts q
  where
    go : (ss : List Start) (q : ℕ)
        → (elim (slice_get (map path_of ss) q) as (λ _. Bool) [ None ↦ false | Some r ↦ is_held a r.state ]) ≡ false
    go [] q = refl
    go (s ∷ ss) zero = begins_free a s
    go (s ∷ ss) (suc q) = go ss q

within_or_past : {A : Type 0} (xs : List A) (i : ℕ) → ((x : A) × (slice_get xs i ≡ Some x)) ⊎ (length xs ≤ i)
within_or_past [] i = inr (omega arith)
within_or_past (x ∷ xs) zero = inl (x, refl)
within_or_past (x ∷ xs) (suc i) = ⊎_elim (λ (h : (y : _) × (slice_get xs i ≡ Some y)). inl h)
    (λ (h : length xs ≤ i). inr (omega arith)) (within_or_past xs i)

module _ {B L : Type 0} (see : Sight B L) where
  pub finished : TellsHands → (lock : TableId) (d : BookPlan B L) (made : ℕ) (ss : List (SeatView HistoryEntry (BookPlan B L)))
      (v : Shelf B L) → AreIdle lock d 0 made ss → plan_of v ≡ d → IsSound see v → HasRoom v
      → ((k : ℕ) (p : SeatView HistoryEntry (BookPlan B L)) → slice_get ss k ≡ Some p
      → Begins (seen_of p) (history_of (tell see) v))
      → ((k : ℕ) (p : SeatView HistoryEntry (BookPlan B L)) → slice_get ss k ≡ Some p
      → own k (history_of (tell see) v) ≡ mine_of p)
      → ((k : ℕ) → length ss ≤ k → own k (history_of (tell see) v) ≡ []) → IsFinished see d ss v
  finished law lock d made ss v idle is sound room begins mine none = record {
    plan = is;
    sound = sound;
    room = room;
    begins = begins;
    mine = mine;
    none = none;
    hands = hands;
  }
    where
      r : IsRun d (history_of (tell see) v) v.core
      r = reads_of see d v is sound

      below : AreBelow d.drivers d.starts.items
      below = below_of see d v is sound

      hands : (a : ℕ) (q : ℕ) → held_at v.core a q ≡ false
      hands a q = ⊎_elim
          (λ (h : (p : SeatView HistoryEntry (BookPlan B L)) × (slice_get ss a ≡ Some p)).
          let i = idle_at lock d 0 made ss a h.0 idle h.1 in
          let n : 0 + a ≡ a = omega arith in
          let k = subst (λ j. HasNothing lock d j i.0 h.0) n i.1 in
          same_hands law d a (history_of (tell see) v) (seen_of h.0) v.core k.0 below r k.1.reads
          (mine a h.0 h.1 ∙ k.1.seat.receipts) q ∙ k.2 q)
          (λ (h : length ss ≤ a).
          law d.starts.items d.workers d.drivers a (events_of (history_of (tell see) v)) [] v.core
          (start d.starts.items d.workers d.drivers) below r.run refl
          (own_events d.starts.items d.workers a (history_of (tell see) v) r.stamped
          ∙ ap (map (λ e. e.event)) (none a h)) q
          ∙ start_free d.starts.items d.workers d.drivers a q)
          (within_or_past ss a)

get_past : {A : Type 0} (xs : List A) (p : ℕ) → length xs ≤ p → slice_get xs p ≡ None
get_past [] p h = refl
get_past (x ∷ xs) zero h = absurd (omega arith)
get_past (x ∷ xs) (suc p) h = get_past xs p (omega arith)

pub ok_three : {X Y : Type 0} (P Q R S : X → Type 0) (r : Result X Y) → ((x : X) → P x → Q x → R x → S x)
    → IfOk r P → IfOk r Q → IfOk r R → IfOk r S
ok_three P Q R S (Ok x) h p q r = h x p q r
ok_three P Q R S (Err y) h p q r = tt

-- what is placed at a path
record Placed {B L : Type 0} (slots : List (Slot B L)) (cs : List (Card B L)) (p : ℕ) (y : Slot B L) : Type 0 where
  pub slot : Slot B L
  pub at : slice_get (placed slots cs) p ≡ Some slot
  pub is : ((k : ℕ) × (c : Card B L) × (slice_get cs k ≡ Some c) × (c.path ≡ p) × (slot ≡ Waits c))
      ⊎ ((slot ≡ y) × ((k : ℕ) (c : Card B L) → slice_get cs k ≡ Some c → c.path ≡ p → ⊥))

module _ {B L : Type 0} where
  placed_at : (slots : List (Slot B L)) (cs : List (Card B L)) (p : ℕ) (y : Slot B L) → slice_get slots p ≡ Some y
      → Placed slots cs p y
  placed_at slots [] p y e = record { slot = y; at = e; is = inr (refl, λ k c i j. absurd (cc (i))) }
  placed_at slots (c ∷ cs) p y e = dite (ℕ_discrete c.path p)
      (λ same. let r = placed_at (set slots c.path (Waits c)) cs p (Waits c) (ap (slice_get (set slots c.path (Waits
      c))) (sym same) ∙ get_set_same slots c.path (Waits c) y (ap (slice_get slots) same ∙ e)) in record {
        slot = r.slot;
        at = r.at;
        is = ⊎_elim
            (λ (h : (k : ℕ) × (x : Card B L) × (slice_get cs k ≡ Some x) × (x.path ≡ p) × (r.slot ≡ Waits x)). inl
            (suc h.0, h.1, h.2, h.3, h.4))
            (λ (h : (r.slot ≡ Waits c) × ((k : ℕ) (x : Card B L) → slice_get cs k ≡ Some x → x.path ≡ p → ⊥)). inl
            (zero, c, refl, same, h.0))
            r.is;
      })
      (λ other. let r = placed_at (set slots c.path (Waits c)) cs p y (get_set_other slots c.path p (Waits c) (λ i.
      other (sym i)) ∙ e) in record {
        slot = r.slot;
        at = r.at;
        is = ⊎_elim
            (λ (h : (k : ℕ) × (x : Card B L) × (slice_get cs k ≡ Some x) × (x.path ≡ p) × (r.slot ≡ Waits x)). inl
            (suc h.0, h.1, h.2, h.3, h.4))
            (λ (h : (r.slot ≡ y) × ((k : ℕ) (x : Card B L) → slice_get cs k ≡ Some x → x.path ≡ p → ⊥)). inr (
              h.0,
              later cs h.1 other,
            ))
            r.is;
      })
    where
      later : (cs : List (Card B L)) → ((k : ℕ) (x : Card B L) → slice_get cs k ≡ Some x → x.path ≡ p → ⊥)
          → (c.path ≡ p → ⊥) → (k : ℕ) (x : Card B L) → slice_get (c ∷ cs) k ≡ Some x → x.path ≡ p → ⊥
      later cs h n zero x i j = n (let t : c ≡ x = cc (i) in ap (λ (z : Card B L). z.path) t ∙ j)
      later cs h n (suc k) x i j = h k x i j

  aways_at : (n p : ℕ) → p < n → slice_get (aways {B = B} {L = L} n) p ≡ Some Away
  aways_at zero p h = absurd (omega arith)
  aways_at (suc n) zero h = refl
  aways_at (suc n) (suc p) h = aways_at n p (omega arith)

module _ {B L : Type 0} where
  -- no card is closed yet
  none_ended : (n : ℕ) (pool : List (Card B L)) (p : ℕ) (b : B) (l : L)
      → slice_get (placed (aways n) pool) p ≡ Some (Ended b l) → ⊥
  none_ended n pool p b l at =
      let within = past_none (placed (aways n) pool) p (Ended b l) at in
      let y = placed_at (aways n) pool p Away (aways_at n p (omega (
        arith,
        within,
        placed_length (aways n) pool,
        aways_length B L n,
      ))) in
      let both : Some y.slot ≡ Some (Ended b l) = sym y.at ∙ at in
      let is : y.slot ≡ Ended b l = cc (both) in
      ⊎_elim
      (λ (h : (k : ℕ) × (c : Card B L) × (slice_get pool k ≡ Some c) × (c.path ≡ p) × (y.slot ≡ Waits c)).
      let other : Waits h.1 ≡ Ended b l = sym h.4 ∙ is in absurd (cc (other)))
      (λ (h : (y.slot ≡ Away) × ((k : ℕ) (c : Card B L) → slice_get pool k ≡ Some c → c.path ≡ p → ⊥)).
      let other : Away ≡ Ended b l = sym h.0 ∙ is in absurd (cc (other)))
      y.is

get_map : (starts : List Start) (p : ℕ) (s : Start) → slice_get starts p ≡ Some s
    → slice_get (map path_of starts) p ≡ Some (path_of s)
get_map [] p s e = absurd (cc (e))
get_map (x ∷ xs) zero s e = let t : x ≡ s = cc (e) in ap (λ z. Some (path_of z)) t
get_map (x ∷ xs) (suc p) s e = get_map xs p s e

map_past : (starts : List Start) (p : ℕ) → length starts ≤ p → slice_get (map path_of starts) p ≡ None
map_past [] p h = refl
map_past (x ∷ xs) zero h = absurd (omega arith)
map_past (x ∷ xs) (suc p) h = map_past xs p (omega arith)

module _ {B L : Type 0} (see : Sight B L) where
  row_begins : (starts : List Start) (pool cards : List (Card B L)) → AreNew see cards
      → ((k : ℕ) (c : Card B L) → slice_get pool k ≡ Some c → slice_get cards k ≡ Some c) → ArePool starts pool
      → (p : ℕ)
      → IsRow see cards p (slice_get (placed (aways (length starts)) pool) p) (slice_get (map path_of starts) p)
  row_begins starts pool cards new front are p = ⊎_elim
      (λ (h : (s : Start) × (slice_get starts p ≡ Some s)).
      let y = placed_at (aways (length starts)) pool p Away (aways_at (length starts) p (past_none starts p h.0 h.1)) in
      subst (λ o. IsRow see cards p o (slice_get (map path_of starts) p)) (sym y.at)
      (subst (λ (o : Option Path). IsRow see cards p (Some y.slot) o) (sym (get_map starts p h.0 h.1))
      (lies y.slot h.0 h.1 y.is)))
      (λ (h : length starts ≤ p).
      let len = placed_length (aways (length starts)) pool ∙ aways_length B L (length starts) in
      subst (λ o. IsRow see cards p o (slice_get (map path_of starts) p))
      (sym (get_past (placed (aways (length starts)) pool) p (omega (arith, len))))
      (subst (λ (o : Option Path). IsRow see cards p None o) (sym (map_past starts p h)) tt))
      (within_or_past starts p)
    where
      wait : (c : Card B L) (s : Start) → slice_get starts p ≡ Some s → (k : ℕ) → slice_get pool k ≡ Some c
          → c.path ≡ p → Lies see cards p (Waits c) (begins s)
      wait c s at k in_pool is =
          let ready : c.ready ≡ None = (new k c (front k c in_pool)).unready in
          let pool_start : s ≡ Pool = let u : Some s ≡ Some Pool = sym at ∙ (ap (slice_get starts) (sym is) ∙
          are.there k c in_pool) in cc (u) in
          subst (λ (z : Start). Lies see cards p (Waits c) (begins z)) (sym pool_start) (
            subst (λ (r : Option Prepared). WaitsSo (seen see c) (Waiting None) r) (sym ready) tt,
            is,
            (k, c, front k c in_pool, refl),
          )

      free : (s : Start) → slice_get starts p ≡ Some s
          → ((k : ℕ) (c : Card B L) → slice_get pool k ≡ Some c → c.path ≡ p → ⊥) → is_waiting (begins s) ≡ false
      free Pool at n = absurd (let a = are.all p at in n a.0 a.1 a.2 a.3)
      free (Desk d b) at n = refl
      free (Done v) at n = refl

      lies : (x : Slot B L) (s : Start) → slice_get starts p ≡ Some s
          → ((k : ℕ) × (c : Card B L) × (slice_get pool k ≡ Some c) × (c.path ≡ p) × (x ≡ Waits c))
          ⊎ ((x ≡ Away) × ((k : ℕ) (c : Card B L) → slice_get pool k ≡ Some c → c.path ≡ p → ⊥))
          → Lies see cards p x (begins s)
      lies x s at is = ⊎_elim
          (λ (h : (k : ℕ) × (c : Card B L) × (slice_get pool k ≡ Some c) × (c.path ≡ p) × (x ≡ Waits c)).
          subst (λ z. Lies see cards p z (begins s)) (sym h.4) (wait h.1 s at h.0 h.2 h.3))
          (λ (h : (x ≡ Away) × ((k : ℕ) (c : Card B L) → slice_get pool k ≡ Some c → c.path ≡ p → ⊥)).
          subst (λ z. Lies see cards p z (begins s)) (sym h.0) (free s at h.1))
          is

  -- a book as it begins
  begins_sound : (d : BookPlan B L) (capacity : ℕ) → AreBelow d.drivers d.starts.items
      → ArePool d.starts.items d.pool.items → AreNew see (cards_of d) → 10 * length d.starts.items ≤ capacity
      → Sound see d (start d.starts.items d.workers d.drivers) []
      (placed (aways (length d.starts.items)) d.pool.items)
      (map (λ s. waits s) (placed (aways (length d.starts.items)) d.pool.items)) capacity
  begins_sound d capacity below are new room = record {
    below = below;
    new = new;
    run = refl;
    actors = tt;
    rows = row_begins d.starts.items d.pool.items (cards_of d) new
        (λ k c i. get_left d.pool.items (joined d.desks.items) k c i) are;
    flags = refl;
    ended = tt;
    closed = λ p b l at. absurd (none_ended (length d.starts.items) d.pool.items p b l at);
    room = room;
  }

  pub begins_at : (d e : BookPlan B L) (core : Core) (events : List Event) (slots : List (Slot B L)) (flags : List Bool)
      (capacity : ℕ) → e ≡ d → AreBelow d.drivers d.starts.items → ArePool d.starts.items d.pool.items
      → AreNew see (cards_of d) → 10 * length d.starts.items ≤ capacity
      → core ≡ start d.starts.items d.workers d.drivers → events ≡ []
      → slots ≡ placed (aways (length d.starts.items)) d.pool.items → flags ≡ map (λ s. waits s) slots
      → Sound see e core events slots flags capacity
  begins_at d e core events slots flags capacity same below are new room is none laid flag =
      subst (λ (x : BookPlan B L). Sound see x core events slots flags capacity) (sym same)
      (subst (λ (x : Core). Sound see d x events slots flags capacity) (sym is)
      (subst (λ l. Sound see d (start d.starts.items d.workers d.drivers) l slots flags capacity) (sym none)
      (subst (λ f. Sound see d (start d.starts.items d.workers d.drivers) [] slots f capacity) (sym flag)
      (subst (λ l. Sound see d (start d.starts.items d.workers d.drivers) [] l (map (λ s. waits s) l) capacity) (sym
      laid)
      (begins_sound d capacity below are new room)))))

module _ {B L : Type 0} where
  idle_one : (lock : TableId) (d : BookPlan B L) (k made : ℕ) (s : SeatView HistoryEntry (BookPlan B L)) → IsSeat lock d k made s
      → seen_of s ≡ [] → k < d.workers + d.drivers → HasNothing lock d k made s
  idle_one lock d k made s seat unseen few = (
    start d.starts.items d.workers d.drivers,
    record {
      seat = seat;
      reads = subst (λ h. IsRun d h (start d.starts.items d.workers d.drivers)) (sym unseen)
          record { stamped = tt; run = refl };
      actor = few;
    },
    λ q. start_free d.starts.items d.workers d.drivers k q,
  )

  pub idle_new : (lock : TableId) (d : BookPlan B L) (k made : ℕ) (ss : List (SeatView HistoryEntry (BookPlan B L)))
      → AreSeats lock d k made ss → All (λ s. seen_of s ≡ []) ss → k + length ss ≤ d.workers + d.drivers
      → AreIdle lock d k made ss
  idle_new lock d k made [] a u few = tt
  idle_new lock d k made (s ∷ ss) a u few = (
    idle_one lock d k made s a.0 (u 0 s (omega arith)) (omega arith),
    idle_new lock d (suc k) 0 ss a.1 (λ i x h. u (suc i) x (omega arith)) (omega arith),
  )

  pub fresh_seats : (lock : TableId) (d : BookPlan B L) (k made : ℕ) (ss : List (SeatView HistoryEntry (BookPlan B L)))
      → AreSeats lock d k made ss → All (λ s. seen_of s ≡ []) ss → AreFresh ss
  fresh_seats lock d k made [] a u = tt
  fresh_seats lock d k made (s ∷ ss) a u = (
    a.0.receipts ∙ ap (own k) (u 0 s (omega arith)),
    u 0 s (omega arith),
    fresh_seats lock d (suc k) 0 ss a.1 (λ i x h. u (suc i) x (omega arith)),
  )
