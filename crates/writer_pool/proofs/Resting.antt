-- What still waits is written and closed.
use Rattle.std.proofs.Common.{◌≡◌, ◌==◌, ℕ, zero, suc, ◌<◌, ⊎_elim, Bool, true, false, cond, List, [], ◌∷◌, ◌++◌, length, Option, Some, None, refl, sym, ap, ◌∙◌, subst, append_assoc, arith}
use Rattle.edge_kit.specs.Seen.{LeafSeen}
use Rattle.std.specs.Prelude.{slice_get, slice_set, ◌||◌, is_some}
use Rattle.tree_encoding.specs.declared.prepared.Prepared.{Prepared}
use Rattle.convert_plan.specs.declared.card.Card.{Card}
use Rattle.convert_plan.specs.Card.{CardSeen, IsCardOf}
use Rattle.checkout_core.specs.declared.verdict.FilterCause.{FilterCause}
use Rattle.checkout_core.specs.declared.verdict.Own.{Own}
use Rattle.checkout_core.specs.declared.verdict.Verdict.{Verdict}
use Rattle.checkout_core.specs.declared.path.PathState.{PathState}
use Rattle.checkout_core.specs.declared.path.PathState.TheVariants.{Waiting, Held, Closed}
use Rattle.checkout_core.specs.declared.path.Path.{Path}
use Rattle.checkout_core.specs.declared.event.Event.{Event}
use Rattle.checkout_core.specs.declared.event.Event.TheVariants.{Claim, Close, HandBack}
use Rattle.checkout_core.specs.States.{Core, with_state}
use Rattle.checkout_core.specs.Steps.{step_of}
use Rattle.checkout_core.specs.Verdicts.{held_close}
use Rattle.checkout_core.specs.Actors.{is_step}
use Rattle.checkout_core.specs.Desks.{was_read}
use Rattle.checkout_core.specs.Fates.{Untold, fate_of}
use Rattle.checkout_core.specs.Notes.{notes}
use Rattle.checkout_core.specs.Hands.{is_held, held_at, Holds}
use Rattle.core_laws.specs.Moves.{Moved, is_with_driver}
use Rattle.checkout_book.specs.declared.plan.BookPlan.{BookPlan}
use Rattle.checkout_book.specs.declared.shelf.Slot.{Slot}
use Rattle.checkout_book.specs.declared.shelf.Slot.TheVariants.{Away, Waits, Ended}
use Rattle.checkout_book.specs.Shape.{Shelf}
use Rattle.checkout_book.specs.Sights.{Sight, seen, tell}
use Rattle.checkout_book.specs.Shelves.{plan_of, cards_of, IsPlanned, IsRow, Lies, WaitsSo, IsEnded, AreEnded}
use Rattle.checkout_book.specs.Ending.{GoesOn}
use Rattle.checkout_book.specs.Turns.{Turned, Claimed}
use Rattle.card_worker.specs.Working.{IsShown}
use Rattle.card_worker.specs.Writing.{WritesCard}
use Rattle.writer_pool.specs.Closing.{IsFromDesk, RefusedBacks, EndsCard}
use Rattle.writer_pool.specs.Ends.{IsQuiet}
use Rattle.writer_pool.specs.Sealing.{EndsOn, leaf_in_slot}
use Rattle.writer_pool.proofs.Places.{some_is, get_set_same, get_set_other, get_more, get_front, get_last, place_is}
use Rattle.writer_pool.proofs.Closings.{notes_quiet, desk_before, ends_longer, ends_claimed}
use Rattle.writer_pool.proofs.CoreMoves.{moved_here, hands_moved, away_moved}

abbrev pub TakesPath : Type 0
TakesPath = (c x : Core) (p a : ℕ) → step_of c (Claim p a) ≡ Some x
    → (raw : Option FilterCause) × Moved c x p (Waiting raw) (Held a raw)

abbrev pub ClosesPath : Type 0
ClosesPath = (c x : Core) (p a : ℕ) (o : Own) → step_of c (Close p a o) ≡ Some x
    → (s : PathState) × (v : Verdict) × Moved c x p s (Closed v) × ((is_held a s || is_with_driver s) ≡ true)

-- each outcome that a claimed card may have gives its path a verdict
abbrev pub GivesVerdict : Type 0
GivesVerdict = (card : CardSeen) (raw : Option FilterCause) (ready : Option Prepared) (o : Own)
    → WaitsSo card (Waiting raw) ready → (is_some ready ≡ true → was_read o ≡ true)
    → (v : Verdict) × (held_close raw o ≡ Some v)

-- a path in hand may be closed with a verdict
abbrev pub MayClose : Type 0
MayClose = (c : Core) (p a : ℕ) (raw : Option FilterCause) (o : Own) (v : Verdict) → Holds c p a raw
    → held_close raw o ≡ Some v → is_step c (Close p a o) ≡ true

module _ {B L : Type 0} where
  pub ended_at : (slots : List (Slot B L)) (es : List Event) (i p a : ℕ) (o : Own) → AreEnded slots es
      → slice_get es i ≡ Some (Close p a o) → (b : B) × (l : L) × (slice_get slots p ≡ Some (Ended b l))
  ended_at slots [] i p a o h e = absurd (cc (e))
  ended_at slots (x ∷ es) zero p a o h e = let is : x ≡ Close p a o = cc (e) in subst (IsEnded slots) is h.0
  ended_at slots (x ∷ es) (suc i) p a o h e = ended_at slots es i p a o h.1 e

module _ {B L : Type 0} (see : Sight B L) where
  -- how the writing of a claimed card ended shows in the entry of its Close
  abbrev pub ShowsWriting : Type 0
  ShowsWriting = (cards : List (Card B L)) (k w : Card B L) (n : ℕ) (o : Own) → IsPlanned see cards k
      → IsCardOf (seen see k) (seen see w) → WritesCard (seen see k) o (see.blob w.blob) (see.leaf w.leaf)
      → IsShown see cards (Close w.path n o) (Some (tell see w.blob w.leaf))

  -- a card that an actor has in hand may be closed after it was written
  pub held_may_close : MayClose → GivesVerdict → (x : Core) (k w : Card B L) (raw : Option FilterCause) (n : ℕ) (o : Own)
      → Holds x k.path n raw → WaitsSo (seen see k) (Waiting raw) k.ready → IsCardOf (seen see k) (seen see w)
      → (is_some k.ready ≡ true → was_read o ≡ true) → is_step x (Close w.path n o) ≡ true
  held_may_close may gives x k w raw n o holds so kept read =
      let v = gives (seen see k) raw k.ready o so read in
      subst (λ (p : ℕ). is_step x (Close p n o) ≡ true) (sym (ap (λ (z : CardSeen). z.path) kept))
      (may x k.path n raw o v.0 holds v.1)

  -- what is known of the card of a waiting path
  pub record Waited (cards : List (Card B L)) (core : Core) (k : Card B L) : Type 0 where
    pub row : Path
    pub there : slice_get core.paths k.path ≡ Some row
    pub so : WaitsSo (seen see k) row.state k.ready
    pub planned : IsPlanned see cards k

  waited_at : (cards : List (Card B L)) (core : Core) (k : Card B L) (o : Option (Slot B L)) (r : Option Path)
      → o ≡ Some (Waits k) → slice_get core.paths k.path ≡ r → IsRow see cards k.path o r → Waited cards core k
  waited_at cards core k None None is there row = absurd (cc (is))
  waited_at cards core k None (Some r) is there row = absurd (cc (is))
  waited_at cards core k (Some x) None is there row = absurd row
  waited_at cards core k (Some x) (Some r) is there row =
      let e : x ≡ Waits k = cc (is) in
      let lies = subst (λ (y : Slot B L). Lies see cards k.path y r.state) e row in
      record { row = r; there = there; so = lies.0; planned = lies.2 }

  -- the card of a path that was claimed
  pub record InHand (s0 s1 : Shelf B L) (k : Card B L) : Type 0 where
    pub raw : Option FilterCause
    pub moved : Moved s0.core s1.core k.path (Waiting raw) (Held 0 raw)
    pub holds : Holds s1.core k.path 0 raw
    pub so : WaitsSo (seen see k) (Waiting raw) k.ready
    pub planned : IsPlanned see (cards_of (plan_of s0)) k

  pub in_hand : TakesPath → (s0 s1 : Shelf B L) (k : Card B L) → GoesOn see s0 → Claimed 0 s0 s1 k → InHand s0 s1 k
  in_hand takes s0 s1 k goes c =
      let t = takes s0.core s1.core k.path 0 c.turned.step in
      let w = waited_at (cards_of (plan_of s0)) s0.core k (slice_get s0.slots.items k.path) _ c.was refl
      (goes.sound.rows k.path) in
      let same : w.row ≡ t.1.row = some_is w.row t.1.row (sym w.there ∙ t.1.there) in
      record {
        raw = t.0;
        moved = t.1;
        holds = (
          with_state t.1.row (Held 0 t.0),
          moved_here s0.core s1.core k.path (Waiting t.0) (Held 0 t.0) t.1,
          refl,
        );
        so = subst (λ (s : PathState). WaitsSo (seen see k) s k.ready) (ap (λ (r : Path). r.state) same ∙ t.1.was) w.so;
        planned = w.planned;
      }

  -- a claim leaves each entry's slot
  close_same : (s0 s1 : Shelf B L) (k : Card B L) → IsQuiet see s0 → Claimed 0 s0 s1 k → (i p a : ℕ) (o : Own)
      → slice_get s0.events.items i ≡ Some (Close p a o) → (p ≡ k.path → ⊥)
  close_same s0 s1 k quiet c i p a o at is =
      let e = ended_at s0.slots.items s0.events.items i p a o quiet.goes_on.sound.ended at in
      let u : Some (Ended e.0 e.1) ≡ Some (Waits k) = sym e.2 ∙ (ap (slice_get s0.slots.items) is ∙ c.was) in
      cc (u)

  -- the history after the claim and the Close
  turn_events : (s0 s1 s2 : Shelf B L) (k w : Card B L) (o : Own) → Claimed 0 s0 s1 k
      → Turned (Close w.path 0 o) w.path (Ended w.blob w.leaf) s1 s2
      → s2.events.items ≡ s0.events.items ++ Claim k.path 0 ∷ Close w.path 0 o ∷ []
  turn_events s0 s1 s2 k w o c turned =
      turned.events ∙ (ap (λ (l : List Event). l ++ Close w.path 0 o ∷ []) c.turned.events
      ∙ append_assoc s0.events.items (Claim k.path 0 ∷ []) (Close w.path 0 o ∷ []))

  -- the slot of another path stays
  slot_stays : (s0 s1 s2 : Shelf B L) (k w : Card B L) (o : Own) (p : ℕ) → Claimed 0 s0 s1 k
      → Turned (Close w.path 0 o) w.path (Ended w.blob w.leaf) s1 s2 → k.path ≡ w.path → (p ≡ k.path → ⊥)
      → slice_get s2.slots.items p ≡ slice_get s0.slots.items p
  slot_stays s0 s1 s2 k w o p c turned path other =
      ap (λ (l : List (Slot B L)). slice_get l p) turned.slots
      ∙ (get_set_other s1.slots.items w.path p (Ended w.blob w.leaf) (λ same. other (same ∙ sym path))
      ∙ (ap (λ (l : List (Slot B L)). slice_get l p) c.turned.slots
      ∙ get_set_other s0.slots.items k.path p Away other))

  -- the card that was closed last was claimed right before
  last_claim : (s0 s1 s2 : Shelf B L) (k w : Card B L) (o : Own) (i p a : ℕ) (x : Own) → Claimed 0 s0 s1 k
      → Turned (Close w.path 0 o) w.path (Ended w.blob w.leaf) s1 s2 → k.path ≡ w.path
      → Close w.path 0 o ≡ Close p a x → i ≡ length s1.events.items
      → (j : ℕ) × (j < i) × (slice_get s2.events.items j ≡ Some (Claim p a))
  last_claim s0 s1 s2 k w o i p a x c turned path last place =
      let closed : w.path ≡ p = cc (last) in
      let by : 0 ≡ a = cc (last) in
      let j = length s0.events.items in
      let first : slice_get s1.events.items j ≡ Some (Claim k.path 0) =
      ap (λ (l : List Event). slice_get l j) c.turned.events ∙ get_last s0.events.items (Claim k.path 0) in
      let within : j < length s1.events.items = place_is s1.events.items j (Claim k.path 0) first in
      let same : k.path ≡ p = path ∙ closed in (
        j,
        omega (arith, within, place),
        ap (λ (l : List Event). slice_get l j) turned.events
            ∙ (get_front s1.events.items (Close w.path 0 o ∷ []) j (Claim k.path 0) first
            ∙ (λ m. Some (Claim (same m) (by m)))),
      )

  last_ends : (s0 s1 s2 : Shelf B L) (k w : Card B L) (o : Own) (i p a : ℕ) (x : Own) (card : CardSeen)
      → Claimed 0 s0 s1 k → Turned (Close w.path 0 o) w.path (Ended w.blob w.leaf) s1 s2 → k.path ≡ w.path
      → Close w.path 0 o ≡ Close p a x → i ≡ length s1.events.items
      → WritesCard card o (see.blob w.blob) (see.leaf w.leaf)
      → EndsCard (plan_of s2).starts.items s2.events.items i p a x card (see.blob w.blob) (see.leaf w.leaf)
  last_ends s0 s1 s2 k w o i p a x card c turned path last place wrote =
      let owns : o ≡ x = cc (last) in
      let t = last_claim s0 s1 s2 k w o i p a x c turned path last place in
      ends_claimed (plan_of s2).starts.items s2.events.items t.0 i p a x card (see.blob w.blob) (see.leaf w.leaf) t.1
      t.2 (subst (λ (y : Own). WritesCard card y (see.blob w.blob) (see.leaf w.leaf)) owns wrote)

  -- the leaf of a card that a desk closed was closed before
  pub rest_seals : (s0 s1 s2 : Shelf B L) (k w : Card B L) (o : Own) → IsQuiet see s0 → Claimed 0 s0 s1 k
      → Turned (Close w.path 0 o) w.path (Ended w.blob w.leaf) s1 s2 → IsCardOf (seen see k) (seen see w)
      → (q p : ℕ) (leaf : LeafSeen) → EndsOn see s2 q p leaf → EndsOn see s0 q p leaf
  rest_seals s0 s1 s2 k w o quiet c turned kept q p leaf z = ⊎_elim
      (λ (older : slice_get s1.events.items z.place ≡ Some (Close p z.actor z.own)). ⊎_elim
      (λ (oldest : slice_get s0.events.items z.place ≡ Some (Close p z.actor z.own)).
      let before = desk_before s2.starts.value.items s0.events.items (Claim k.path 0 ∷ Close w.path 0 o ∷ [])
      s2.events.items z.place p z.actor q z.required (turn_events s0 s1 s2 k w o c turned) z.desk in
      record {
        place = z.place;
        actor = z.actor;
        own = z.own;
        required = z.required;
        leaf = z.leaf;
        entry = oldest;
        desk = subst (λ (d : BookPlan B L). IsFromDesk d.starts.items s0.events.items z.place p z.actor q z.required)
            (turned.plan ∙ c.turned.plan) before;
        there = ap leaf_in_slot (sym (slot_stays s0 s1 s2 k w o p c turned (sym is)
            (close_same s0 s1 k quiet c z.place p z.actor z.own oldest))) ∙ z.there;
        is = z.is;
      })
      (λ (claim : (Claim k.path 0 ≡ Close p z.actor z.own) × (z.place ≡ length s0.events.items)).
      absurd (let u = claim.0 in cc (u)))
      (get_more s0.events.items (Claim k.path 0) z.place (Close p z.actor z.own)
      (ap (λ (l : List Event). slice_get l z.place) (sym c.turned.events) ∙ older)))
      (λ (last : (Close w.path 0 o ≡ Close p z.actor z.own) × (z.place ≡ length s1.events.items)).
      let t = last_claim s0 s1 s2 k w o z.place p z.actor z.own c turned (sym is) last.0 last.1 in
      absurd (z.desk.unclaimed t.0 t.1 t.2))
      (get_more s1.events.items (Close w.path 0 o) z.place (Close p z.actor z.own)
      (ap (λ (l : List Event). slice_get l z.place) (sym turned.events) ∙ z.entry))
    where
      is : w.path ≡ k.path
      is = ap (λ (y : CardSeen). y.path) kept

  -- what was handed back was handed back before
  rest_backs : (s0 s1 s2 : Shelf B L) (k w : Card B L) (o : Own) → IsQuiet see s0 → Claimed 0 s0 s1 k
      → Turned (Close w.path 0 o) w.path (Ended w.blob w.leaf) s1 s2
      → RefusedBacks (plan_of s2).starts.items s2.events.items
  rest_backs s0 s1 s2 k w o quiet c turned = subst (λ (d : BookPlan B L). RefusedBacks d.starts.items s2.events.items)
      (sym (turned.plan ∙ c.turned.plan)) (λ i p d required at begun. ⊎_elim
      (λ (older : slice_get s1.events.items i ≡ Some (HandBack p)). ⊎_elim
      (λ (oldest : slice_get s0.events.items i ≡ Some (HandBack p)).
      let r = quiet.backs i p d required oldest begun in
      let same = ap (notes (plan_of s0).starts.items d) (turn_events s0 s1 s2 k w o c turned)
      ∙ notes_quiet (plan_of s0).starts.items d s0.events.items (Claim k.path 0 ∷ Close w.path 0 o ∷ []) refl in
      (r.0, r.1, ap (fate_of p Untold) same ∙ r.2))
      (λ (claim : (Claim k.path 0 ≡ HandBack p) × (i ≡ length s0.events.items)). absurd (let u = claim.0 in cc (u)))
      (get_more s0.events.items (Claim k.path 0) i (HandBack p)
      (ap (λ (l : List Event). slice_get l i) (sym c.turned.events) ∙ older)))
      (λ (last : (Close w.path 0 o ≡ HandBack p) × (i ≡ length s1.events.items)). absurd (let u = last.0 in cc (u)))
      (get_more s1.events.items (Close w.path 0 o) i (HandBack p)
      (ap (λ (l : List Event). slice_get l i) (sym turned.events) ∙ at)))

  free : (b x h : Bool) → h ≡ false → cond b false (cond b x h) ≡ false
  free true x h e = refl
  free false x h e = e

  pub rest_turn : TakesPath → ClosesPath → ShowsWriting → (s0 s1 s2 : Shelf B L) (k w : Card B L) (o : Own) → IsQuiet see s0
      → Claimed 0 s0 s1 k → Turned (Close w.path 0 o) w.path (Ended w.blob w.leaf) s1 s2 → GoesOn see s2
      → IsCardOf (seen see k) (seen see w) → WritesCard (seen see k) o (see.blob w.blob) (see.leaf w.leaf)
      → IsQuiet see s2
  rest_turn takes closes shows s0 s1 s2 k w o quiet c turned goes kept wrote =
      let h = in_hand takes s0 s1 k quiet.goes_on c in
      let z = closes s1.core s2.core w.path 0 o turned.step in
      let is : w.path ≡ k.path = ap (λ (y : CardSeen). y.path) kept in
      let plan : plan_of s2 ≡ plan_of s0 = turned.plan ∙ c.turned.plan in
      let away1 = away_moved s0.core s1.core k.path (Waiting h.raw) (Held 0 h.raw) h.moved refl quiet.away in
      record {
        goes_on = goes;
        hands = λ a q. hands_moved s1.core s2.core w.path z.0 (Closed z.1) a z.2 q
            ∙ (ap (λ x. cond (q == w.path) false x)
            (hands_moved s0.core s1.core k.path (Waiting h.raw) (Held 0 h.raw) a h.moved q)
            ∙ (ap (λ j. cond (q == w.path) false (cond (q == j) (is_held a (Held 0 h.raw)) (held_at s0.core a q)))
            (sym is)
            ∙ free (q == w.path) (is_held a (Held 0 h.raw)) (held_at s0.core a q) (quiet.hands a q)));
        away = away_moved s1.core s2.core w.path z.0 (Closed z.1) z.2 refl away1;
        backs = rest_backs s0 s1 s2 k w o quiet c turned;
        closed = λ i p a x at. ⊎_elim
            (λ (older : slice_get s1.events.items i ≡ Some (Close p a x)). ⊎_elim
            (λ (oldest : slice_get s0.events.items i ≡ Some (Close p a x)).
            let e = quiet.closed i p a x oldest in
            let other : p ≡ k.path → ⊥ = close_same s0 s1 k quiet c i p a x oldest in (
              e.0,
              e.1,
              slot_stays s0 s1 s2 k w o p c turned (sym is) other ∙ e.2,
              e.3,
              e.4,
              ap (λ (d : BookPlan B L). slice_get (cards_of d) e.3) plan ∙ e.5,
              e.6,
              subst (λ (d : BookPlan B L). EndsCard d.starts.items s2.events.items i p a x (seen see e.4) (see.blob e.0)
                  (see.leaf e.1)) (sym plan) (ends_longer (plan_of s0).starts.items s0.events.items
                  (Claim k.path 0 ∷ Close w.path 0 o ∷ []) s2.events.items i p a x (seen see e.4) (see.blob e.0)
                  (see.leaf e.1) (turn_events s0 s1 s2 k w o c turned) refl oldest e.7),
            ))
            (λ (claim : (Claim k.path 0 ≡ Close p a x) × (i ≡ length s0.events.items)).
            absurd (let u = claim.0 in cc (u)))
            (get_more s0.events.items (Claim k.path 0) i (Close p a x)
            (ap (λ (l : List Event). slice_get l i) (sym c.turned.events) ∙ older)))
            (λ (last : (Close w.path 0 o ≡ Close p a x) × (i ≡ length s1.events.items)).
            let u = last.0 in
            let same : w.path ≡ p = cc (u) in
            let g = shows (cards_of (plan_of s0)) k w 0 o h.planned kept wrote in (
              w.blob,
              w.leaf,
              ap (λ (l : List (Slot B L)). slice_get l p) turned.slots
                  ∙ (ap (slice_get (slice_set s1.slots.items w.path (Ended w.blob w.leaf))) (sym same)
                  ∙ get_set_same s1.slots.items w.path (Ended w.blob w.leaf) Away
                  (ap (λ (l : List (Slot B L)). slice_get l w.path) c.turned.slots
                  ∙ (ap (slice_get (slice_set s0.slots.items k.path Away)) is
                  ∙ get_set_same s0.slots.items k.path Away (Waits k) c.was))),
              g.0,
              g.1,
              ap (λ (d : BookPlan B L). slice_get (cards_of d) g.0) plan ∙ g.2,
              g.3 ∙ same,
              last_ends s0 s1 s2 k w o i p a x (seen see g.1) c turned (sym is) last.0 last.1 g.4,
            ))
            (get_more s1.events.items (Close w.path 0 o) i (Close p a x)
            (ap (λ (l : List Event). slice_get l i) (sym turned.events) ∙ at));
      }
