-- A turn keeps a shelf sound.
use Rattle.std.proofs.Common.{◌≡◌, ◌==◌, ℕ, ◌+◌, ◌<◌, ⊎_elim, Bool, true, false, List, []}
use Rattle.std.proofs.Common.{◌∷◌, ◌++◌, set, length, length-append, Option, Some, None, refl, sym, ap, ◌∙◌, subst}
use Rattle.std.proofs.Common.{arith}
use Rattle.std.specs.Prelude.{slice_get, is_some}
use Rattle.std.specs.Option.{option_map}
use Rattle.edge_kit.specs.Told.{Tells}
use Rattle.edge_kit.specs.Seen.{LeafSeen, IsNewLeaf, emptied}
use Rattle.edge_kit.specs.declared.leaf_state.LeafState.TheVariants.{Fresh}
use Rattle.tree_encoding.specs.declared.prepared.Prepared.{Prepared}
use Rattle.convert_plan.specs.declared.card.Card.{Card}
use Rattle.convert_plan.specs.Card.{CardSeen, IsNewCard, IsPrepared}
use Rattle.checkout_core.specs.declared.verdict.FilterCause.{FilterCause}
use Rattle.checkout_core.specs.declared.verdict.Own.{Own}
use Rattle.checkout_core.specs.declared.path.PathState.{PathState}
use Rattle.checkout_core.specs.declared.path.PathState.TheVariants as st
use Rattle.checkout_core.specs.declared.path.PathState.TheVariants.{Waiting, Held, Unasked, Closed}
use Rattle.checkout_core.specs.declared.path.Path.{Path}
use Rattle.checkout_core.specs.declared.event.Event.{Event}
use Rattle.checkout_core.specs.declared.event.Event.TheVariants.{Claim, Close, HandBack}
use Rattle.checkout_core.specs.Closes.{closes}
use Rattle.checkout_core.specs.States.{Core, start, is_closed, with_state}
use Rattle.checkout_core.specs.Steps.{step_of}
use Rattle.checkout_core.specs.Actors.{actor_of, is_step}
use Rattle.core_laws.specs.Moves.{Moved, RowStays, StaysOr, is_with_driver}
use Rattle.checkout_core.specs.Notes.{is_noted}
use Rattle.checkout_book.specs.declared.plan.BookPlan.{BookPlan}
use Rattle.checkout_book.specs.declared.shelf.Slot.{Slot}
use Rattle.checkout_book.specs.declared.shelf.Slot.TheVariants.{Away, Waits, Ended}
use Rattle.checkout_book.specs.Sights.{Sight, seen}
use Rattle.checkout_book.specs.Waitings.{NoneIs, NoneBelow}
use Rattle.checkout_book.specs.Shelves.{cards_of, waits, is_waiting, WaitsSo, IsPlanned, IsRefused, IsFrom, IsEnded}
use Rattle.checkout_book.specs.Shelves.{Lies, IsRow, Sound}
use Rattle.checkout_book.specs.Turns.{NoneWaits}
use Rattle.checkout_book.proofs.Lists.{get_set_same, get_set_other}
use Rattle.checkout_book.proofs.Flags.{set_same, flags_set, flag_at}
use Rattle.checkout_book.proofs.Runs.{replay_append, same_or, moved_here, moved_there, with_not_waiting}
use Rattle.checkout_book.proofs.Runs.{with_not_closed}
use Rattle.checkout_book.proofs.Runs.{out_not_waiting}
use Rattle.checkout_book.proofs.Entries.{NotEnded, all_ended, ended_more, noted_ended, actors_more}
use Rattle.checkout_book.proofs.Entries.{closed_more, closed_here}
use Rattle.checkout_book.proofs.CoreLaws.{TakesPath, MayTake, ClosesPath, BacksPath, KeepsPaths, KeepsSize, IsShort}

-- a new leaf is fresh and empty
leaf_again : (text : List ℕ) (leaf : LeafSeen) → IsNewLeaf text leaf → emptied Fresh leaf ≡ leaf
leaf_again text leaf new =
    go leaf.content refl new.content
  where
    go : (o : Option (List ℕ)) → leaf.content ≡ o → Tells o [] → emptied Fresh leaf ≡ leaf
    go None i t = ap (λ (c : Option (List ℕ)). record leaf { content = c; state = Fresh }) (ap (λ (c : Option (List
        ℕ)). option_map (λ _. []) c) i ∙ sym i)
        ∙ ap (λ s. record leaf { state = s }) (sym new.fresh)
    go (Some c) i t = ap (λ (c : Option (List ℕ)). record leaf { content = c; state = Fresh }) (ap (λ (c : Option
        (List ℕ)). option_map (λ _. []) c) i ∙ (ap (λ l. Some l) (sym t) ∙ sym i))
        ∙ ap (λ s. record leaf { state = s }) (sym new.fresh)

module _ {B L : Type 0} (see : Sight B L) where
  slot_there : (cards : List (Card B L)) (p : ℕ) (r : Path) (o : Option (Slot B L)) → IsRow see cards p o (Some r)
      → (y : Slot B L) × (o ≡ Some y) × Lies see cards p y r.state
  slot_there cards p r None h = absurd h
  slot_there cards p r (Some y) h = (y, refl, h)

  pub slot_at : (cards : List (Card B L)) (slots : List (Slot B L)) (c : Core) (p : ℕ) (r : Path)
      → ((q : ℕ) → IsRow see cards q (slice_get slots q) (slice_get c.paths q)) → slice_get c.paths p ≡ Some r
      → (y : Slot B L) × (slice_get slots p ≡ Some y) × Lies see cards p y r.state
  slot_at cards slots c p r rows there = slot_there cards p r (slice_get slots p)
      (subst (IsRow see cards p (slice_get slots p)) there (rows p))

  path_there : (cards : List (Card B L)) (p : ℕ) (y : Slot B L) (o : Option Path) → IsRow see cards p (Some y) o
      → (r : Path) × (o ≡ Some r) × Lies see cards p y r.state
  path_there cards p y None h = absurd h
  path_there cards p y (Some r) h = (r, refl, h)

  pub path_of_slot : (cards : List (Card B L)) (slots : List (Slot B L)) (c : Core) (p : ℕ) (y : Slot B L)
      → ((q : ℕ) → IsRow see cards q (slice_get slots q) (slice_get c.paths q)) → slice_get slots p ≡ Some y
      → (r : Path) × (slice_get c.paths p ≡ Some r) × Lies see cards p y r.state
  path_of_slot cards slots c p y rows there = path_there cards p y (slice_get c.paths p)
      (subst (λ o. IsRow see cards p o (slice_get c.paths p)) there (rows p))

  pub away_here : (cards : List (Card B L)) (p : ℕ) (y : Slot B L) (s : PathState) → Lies see cards p y s
      → is_waiting s ≡ false → is_closed s ≡ false → y ≡ Away
  away_here cards p Away s h w k = refl
  away_here cards p (Waits c) (Waiting raw) h w k = absurd (cc (w))
  away_here cards p (Waits c) (Held a raw) h w k = absurd h.0
  away_here cards p (Waits c) Unasked h w k = absurd h.0
  away_here cards p (Waits c) st.Delayed h w k = absurd h.0
  away_here cards p (Waits c) (st.Named t) h w k = absurd h.0
  away_here cards p (Waits c) (st.Heard t) h w k = absurd h.0
  away_here cards p (Waits c) (Closed v) h w k = absurd h.0
  away_here cards p (Ended b l) s h w k = absurd (let t = h.0 in cc (t, k))

  rows_moved : (cards : List (Card B L)) (slots : List (Slot B L)) (c x : Core) (p : ℕ) (s t : PathState)
      (y z : Slot B L) → Moved c x p s t
      → ((q : ℕ) → IsRow see cards q (slice_get slots q) (slice_get c.paths q)) → slice_get slots p ≡ Some z
      → Lies see cards p y t → (q : ℕ) → IsRow see cards q (slice_get (set slots p y) q) (slice_get x.paths q)
  rows_moved cards slots c x p s t y z m rows at lies q = ⊎_elim
      (λ (h : (q ≡ p) × ((q == p) ≡ true)).
      let one : slice_get (set slots p y) q ≡ Some y = ap (slice_get (set slots p y)) h.0 ∙ get_set_same slots p y z
      at in
      let two : slice_get x.paths q ≡ Some (with_state m.row t) = ap (slice_get x.paths) h.0 ∙ moved_here c x p s t m in
      subst (λ o. IsRow see cards q o (slice_get x.paths q)) (sym one)
      (subst (λ (o : Option Path). IsRow see cards q (Some y) o) (sym two)
      (subst (λ (k : ℕ). Lies see cards k y t) (sym h.0) lies)))
      (λ (h : ((q ≡ p) → ⊥) × ((q == p) ≡ false)).
      subst (λ o. IsRow see cards q o (slice_get x.paths q)) (sym (get_set_other slots p q y h.0))
      (subst (λ (o : Option Path). IsRow see cards q (slice_get slots q) o) (sym (moved_there c x p q s t m h.0))
      (rows q)))
      (same_or q p)

  -- the slot of one path changed
  closed_moved : (slots : List (Slot B L)) (events : List Event) (p : ℕ) (e : Event) (y z : Slot B L)
      → slice_get slots p ≡ Some z
      → ((b : B) (l : L) → y ≡ Ended b l → 0 < closes p (events ++ e ∷ []))
      → ((q : ℕ) (b : B) (l : L) → slice_get slots q ≡ Some (Ended b l) → 0 < closes q events)
      → (q : ℕ) (b : B) (l : L) → slice_get (set slots p y) q ≡ Some (Ended b l) → 0 < closes q (events ++ e ∷ [])
  closed_moved slots events p e y z at here there q b l is = ⊎_elim
      (λ (h : (q ≡ p) × ((q == p) ≡ true)).
      let one : slice_get (set slots p y) q ≡ Some y = ap (slice_get (set slots p y)) h.0 ∙ get_set_same slots p y z
      at in
      let both : Some y ≡ Some (Ended b l) = sym one ∙ is in
      let same : y ≡ Ended b l = cc (both) in
      subst (λ (k : ℕ). 0 < closes k (events ++ e ∷ [])) (sym h.0) (here b l same))
      (λ (h : ((q ≡ p) → ⊥) × ((q == p) ≡ false)).
      closed_more q events e (there q b l (sym (get_set_other slots p q y h.0) ∙ is)))
      (same_or q p)

  -- one event came, and one slot changed
  pub moved_sound : (d : BookPlan B L) (core new : Core) (events : List Event) (slots : List (Slot B L))
      (waiting flags : List Bool) (capacity p : ℕ) (e : Event) (y z : Slot B L) (s t : PathState)
      → Sound see d core events slots waiting capacity → Moved core new p s t → step_of core e ≡ Some new
      → is_some (actor_of d.starts.items d.workers e) ≡ true → Lies see (cards_of d) p y t
      → slice_get slots p ≡ Some z → NotEnded slots p → IsEnded (set slots p y) e
      → ((b : B) (l : L) → y ≡ Ended b l → 0 < closes p (events ++ e ∷ []))
      → flags ≡ set waiting p (waits y) → Sound see d new (events ++ e ∷ []) (set slots p y) flags capacity
  moved_sound d core new events slots waiting flags capacity p e y z s t sound m step acts lies at unended ends here
      flag =
      record {
        below = sound.below;
        new = sound.new;
        run = replay_append (start d.starts.items d.workers d.drivers) core new events e sound.run step;
        actors = actors_more d.starts.items d.workers events e sound.actors acts;
        rows = rows_moved (cards_of d) slots core new p s t y z m sound.rows at lies;
        flags = flag ∙ (ap (λ l. set l p (waits y)) sound.flags ∙ sym (flags_set slots p y));
        ended = ended_more (set slots p y) events e (all_ended slots p y events unended sound.ended) ends;
        closed = closed_moved slots events p e y z at here sound.closed;
        room = sound.room;
      }

  -- a path whose card waits
  pub record Waited (d : BookPlan B L) (core : Core) (p : ℕ) (c : Card B L) : Type 0 where
    pub row : Path
    pub there : slice_get core.paths p ≡ Some row
    pub raw : Option FilterCause
    pub state : row.state ≡ Waiting raw
    pub ready : WaitsSo (seen see c) (Waiting raw) c.ready
    pub is_path : c.path ≡ p
    pub planned : IsPlanned see (cards_of d) c

  waiting_so : (c : CardSeen) (s : PathState) (r : Option Prepared) → WaitsSo c s r
      → (raw : Option FilterCause) × (s ≡ Waiting raw) × WaitsSo c (Waiting raw) r
  waiting_so c (Waiting raw) r h = (raw, refl, h)
  waiting_so c (Held a raw) r h = absurd h
  waiting_so c Unasked r h = absurd h
  waiting_so c st.Delayed r h = absurd h
  waiting_so c (st.Named t) r h = absurd h
  waiting_so c (st.Heard t) r h = absurd h
  waiting_so c (Closed v) r h = absurd h

  pub waited : (d : BookPlan B L) (core : Core) (events : List Event) (slots : List (Slot B L)) (waiting : List Bool)
      (capacity p : ℕ) (c : Card B L) → Sound see d core events slots waiting capacity
      → slice_get slots p ≡ Some (Waits c) → Waited d core p c
  waited d core events slots waiting capacity p c sound at =
      let k = path_of_slot (cards_of d) slots core p (Waits c) sound.rows at in
      let w = waiting_so (seen see c) (k.0).state c.ready k.2.0 in
      record { row = k.0; there = k.1; raw = w.0; state = w.1; ready = w.2; is_path = k.2.1; planned = k.2.2 }

  pub claim_steps : MayTake → KeepsSize → (d : BookPlan B L) (core : Core) (events : List Event) (slots : List (Slot B L))
      (waiting : List Bool) (capacity p a : ℕ) (c : Card B L) → Sound see d core events slots waiting capacity
      → slice_get slots p ≡ Some (Waits c) → a < d.workers + d.drivers → is_step core (Claim p a) ≡ true
  claim_steps may size d core events slots waiting capacity p a c sound at few =
      let w = waited d core events slots waiting capacity p c sound at in
      let k = size d.starts.items d.workers d.drivers events core sound.run in
      may core p a w.raw w.row w.there w.state (omega (arith, few, k.0, k.1))

  pub claim_sound : TakesPath → (d : BookPlan B L) (core new : Core) (events : List Event) (slots : List (Slot B L))
      (waiting flags : List Bool) (capacity p a : ℕ) (c : Card B L) → Sound see d core events slots waiting capacity
      → slice_get slots p ≡ Some (Waits c) → step_of core (Claim p a) ≡ Some new → flags ≡ set waiting p false
      → Sound see d new (events ++ Claim p a ∷ []) (set slots p Away) flags capacity
  claim_sound law d core new events slots waiting flags capacity p a c sound at step flag =
      let m = law core new p a step in
      moved_sound d core new events slots waiting flags capacity p (Claim p a) Away (Waits c) (Waiting m.0) (Held a m.0)
      sound m.1 step refl refl at (λ b l i. cc (i, at)) tt (λ b l i. absurd (cc (i))) flag

  pub close_away : ClosesPath → (d : BookPlan B L) (core new : Core) (events : List Event) (slots : List (Slot B L))
      (waiting : List Bool) (capacity p a : ℕ) (o : Own) → Sound see d core events slots waiting capacity
      → step_of core (Close p a o) ≡ Some new → slice_get slots p ≡ Some Away
  close_away law d core new events slots waiting capacity p a o sound step =
      let k = law core new p a o step in
      let n = out_not_waiting a k.0 k.3 in
      let m = k.2 in
      let y = slot_at (cards_of d) slots core p m.row sound.rows m.there in
      y.1 ∙ ap (λ z. Some z) (away_here (cards_of d) p y.0 (m.row).state y.2 (ap is_waiting m.was ∙ n.0)
      (ap is_closed m.was ∙ n.1))

  pub close_sound : ClosesPath → (d : BookPlan B L) (core new : Core) (events : List Event) (slots : List (Slot B L))
      (waiting : List Bool) (capacity p a : ℕ) (o : Own) (b : B) (l : L)
      → Sound see d core events slots waiting capacity → step_of core (Close p a o) ≡ Some new
      → IsFrom see (cards_of d) p b l
      → Sound see d new (events ++ Close p a o ∷ []) (set slots p (Ended b l)) waiting capacity
  close_sound law d core new events slots waiting capacity p a o b l sound step from =
      let k = law core new p a o step in
      let away = close_away law d core new events slots waiting capacity p a o sound step in
      let flag : slice_get waiting p ≡ Some false = ap (λ f. slice_get f p) sound.flags ∙ flag_at slots p Away away in
      moved_sound d core new events slots waiting waiting capacity p (Close p a o) (Ended b l) Away k.0 (Closed k.1)
      sound k.2 step refl (refl, from) away (λ x z i. cc (i, away))
      (b, l, get_set_same slots p (Ended b l) Away away)
      (λ x z i. closed_here p a o events) (sym (set_same waiting p false flag))

  -- a card that was refused is the planned one, ready
  pub refused_planned : (d : BookPlan B L) → ((k : ℕ) (c : Card B L) → slice_get (cards_of d) k ≡ Some c
      → IsNewCard (seen see c)) → (card : Card B L) → (why : FilterCause) → IsRefused see (cards_of d) card
      → WaitsSo (seen see card) (Waiting (Some why)) card.ready × IsPlanned see (cards_of d) card
  refused_planned d new card why refused =
      let k = refused.0 in
      let p = refused.1 in
      let r = refused.3 in
      let n = new k p refused.2 in
      let ready : card.ready ≡ Some r.ready = ap (λ (z : CardSeen). z.ready) r.same in
      let leaf = leaf_again (seen see p).text (seen see p).leaf n.new_leaf in
      let same : seen see card ≡ record (seen see p) { ready = Some r.ready } =
      r.same ∙ ap (λ (l : LeafSeen). record (seen see p) { leaf = l; ready = Some r.ready }) leaf in (
        subst (λ (o : Option Prepared). WaitsSo (seen see card) (Waiting (Some why)) o) (sym ready)
            (subst (λ (z : CardSeen). IsPrepared z r.ready) (sym same) r.is_prepared),
        (k, p, refused.2, same ∙ ap (λ (o : Option Prepared). record (seen see p) { ready = o }) (sym ready)),
      )

  pub back_away : BacksPath → (d : BookPlan B L) (core new : Core) (events : List Event) (slots : List (Slot B L))
      (waiting : List Bool) (capacity p : ℕ) → Sound see d core events slots waiting capacity
      → step_of core (HandBack p) ≡ Some new → slice_get slots p ≡ Some Away
  back_away law d core new events slots waiting capacity p sound step =
      let k = law core new p step in
      let m = k.2 in
      let y = slot_at (cards_of d) slots core p m.row sound.rows m.there in
      y.1 ∙ ap (λ z. Some z) (away_here (cards_of d) p y.0 (m.row).state y.2
      (ap is_waiting m.was ∙ with_not_waiting k.0 k.3) (ap is_closed m.was ∙ with_not_closed k.0 k.3))

  pub back_sound : BacksPath → (d : BookPlan B L) (core new : Core) (events : List Event) (slots : List (Slot B L))
      (waiting flags : List Bool) (capacity : ℕ) (card : Card B L)
      → Sound see d core events slots waiting capacity → step_of core (HandBack card.path) ≡ Some new
      → is_some (actor_of d.starts.items d.workers (HandBack card.path)) ≡ true → IsRefused see (cards_of d) card
      → flags ≡ set waiting card.path true
      → Sound see d new (events ++ HandBack card.path ∷ []) (set slots card.path (Waits card)) flags capacity
  back_sound law d core new events slots waiting flags capacity card sound step acts refused flag =
      let k = law core new card.path step in
      let away = back_away law d core new events slots waiting capacity card.path sound step in
      let r = refused_planned d sound.new card k.1 refused in
      moved_sound d core new events slots waiting flags capacity card.path (HandBack card.path) (Waits card) Away k.0
      (Waiting (Some k.1)) sound k.2 step acts (r.0, refl, r.1) away (λ x z i. cc (i, away)) tt
      (λ b l i. absurd (cc (i))) flag

  lies_on : (cards : List (Card B L)) (q : ℕ) (x : Slot B L) (s t : PathState) → StaysOr s t → Lies see cards q x s
      → Lies see cards q x t
  lies_on cards q x s t h lies = ⊎_elim
      (λ (e : t ≡ s). subst (Lies see cards q x) (sym e) lies)
      (λ (k : (is_with_driver s ≡ true) × (is_with_driver t ≡ true)).
      let away = away_here cards q x s lies (with_not_waiting s k.0) (with_not_closed s k.0) in
      subst (λ z. Lies see cards q z t) (sym away) (with_not_waiting t k.1))
      h

  row_on : (cards : List (Card B L)) (q : ℕ) (o : Option (Slot B L)) (a b : Option Path) → RowStays a b
      → IsRow see cards q o a → IsRow see cards q o b
  row_on cards q None None None h k = tt
  row_on cards q (Some x) (Some r) (Some s) h k = lies_on cards q x r.state s.state h.1 k
  row_on cards q o None (Some s) h k = absurd h
  row_on cards q o (Some r) None h k = absurd h
  row_on cards q None (Some r) (Some s) h k = absurd k
  row_on cards q (Some x) None None h k = absurd k

  pub note_sound : KeepsPaths → (d : BookPlan B L) (core new : Core) (events : List Event) (slots : List (Slot B L))
      (waiting : List Bool) (capacity : ℕ) (e : Event) → Sound see d core events slots waiting capacity
      → is_noted e ≡ true → is_some (actor_of d.starts.items d.workers e) ≡ true → step_of core e ≡ Some new
      → Sound see d new (events ++ e ∷ []) slots waiting capacity
  note_sound law d core new events slots waiting capacity e sound noted acts step = record {
    below = sound.below;
    new = sound.new;
    run = replay_append (start d.starts.items d.workers d.drivers) core new events e sound.run step;
    actors = actors_more d.starts.items d.workers events e sound.actors acts;
    rows = λ q. row_on (cards_of d) q (slice_get slots q) (slice_get core.paths q) (slice_get new.paths q)
        (law core new e noted step q) (sound.rows q);
    flags = sound.flags;
    ended = ended_more slots events e sound.ended (noted_ended slots e noted);
    closed = λ p b l at. closed_more p events e (sound.closed p b l at);
    room = sound.room;
  }

  -- there is room for one event more
  pub has_room : IsShort → (d : BookPlan B L) (core new : Core) (events : List Event) (slots : List (Slot B L))
      (waiting : List Bool) (capacity : ℕ) (e : Event) → Sound see d core events slots waiting capacity
      → step_of core e ≡ Some new → length events < capacity
  has_room law d core new events slots waiting capacity e sound step =
      let l = law d.starts.items d.workers d.drivers (events ++ e ∷ []) new sound.below
      (replay_append (start d.starts.items d.workers d.drivers) core new events e sound.run step) in
      omega (arith, l, length-append events (e ∷ []), sound.room)

  pub waits_not : (cards : List (Card B L)) (p : ℕ) (y : Slot B L) (s : PathState) → Lies see cards p y s
      → waits y ≡ false → is_waiting s ≡ false
  waits_not cards p Away s h n = h
  waits_not cards p (Waits c) s h n = absurd (cc (n))
  waits_not cards p (Ended b l) (Closed v) h n = refl
  waits_not cards p (Ended b l) (Waiting raw) h n = absurd (let t = h.0 in cc (t))
  waits_not cards p (Ended b l) (Held a raw) h n = refl
  waits_not cards p (Ended b l) Unasked h n = refl
  waits_not cards p (Ended b l) st.Delayed h n = refl
  waits_not cards p (Ended b l) (st.Named t) h n = refl
  waits_not cards p (Ended b l) (st.Heard t) h n = refl

  pub none_waits : (d : BookPlan B L) (core : Core) (events : List Event) (slots : List (Slot B L)) (waiting : List Bool)
      (capacity : ℕ) → Sound see d core events slots waiting capacity → NoneIs waiting → NoneWaits core
  none_waits d core events slots waiting capacity sound none p r there =
      let y = slot_at (cards_of d) slots core p r sound.rows there in
      waits_not (cards_of d) p y.0 r.state y.2
      (none p (waits y.0) (ap (λ f. slice_get f p) sound.flags ∙ flag_at slots p y.0 y.1))

  pub none_lower : (d : BookPlan B L) (core : Core) (events : List Event) (slots : List (Slot B L)) (waiting : List Bool)
      (capacity p : ℕ) → Sound see d core events slots waiting capacity → NoneBelow waiting p
      → (q : ℕ) (x : Slot B L) → q < p → slice_get slots q ≡ Some x → waits x ≡ false
  none_lower d core events slots waiting capacity p sound none q x lt at =
      none q (waits x) lt (ap (λ f. slice_get f q) sound.flags ∙ flag_at slots q x at)
