-- The blobs and the leaves of a complete history.
use Rattle.std.proofs.Common.{◌≡◌, ◌==◌, ℕ, zero, suc, ◌+◌, ◌≤◌, ◌⊎◌, inl, inr, ⊎_elim, Bool, true, false, cond, List, [], ◌∷◌, length, map, Option, Some, None, refl, sym, ap, ◌∙◌, subst, arith}
use Rattle.std.specs.Prelude.{slice_get}
use Rattle.convert_plan.specs.declared.card.Card.{Card}
use Rattle.convert_plan.specs.Card.{CardSeen}
use Rattle.checkout_core.specs.declared.verdict.Own.{Own}
use Rattle.checkout_core.specs.declared.verdict.Verdict.{Verdict}
use Rattle.checkout_core.specs.declared.path.PathState.{PathState}
use Rattle.checkout_core.specs.declared.path.Path.{Path}
use Rattle.checkout_core.specs.declared.path.Start.{Start}
use Rattle.checkout_core.specs.declared.path.Start.TheVariants.{Pool, Desk, Done}
use Rattle.checkout_core.specs.declared.event.Event.{Event}
use Rattle.checkout_core.specs.declared.event.Event.TheVariants as ev
use Rattle.checkout_core.specs.declared.event.Event.TheVariants.{Close}
use Rattle.checkout_core.specs.States.{Core, AreBelow, verdict_at, verdict_of}
use Rattle.checkout_core.specs.Steps.{IsLegal}
use Rattle.checkout_core.specs.Closes.{IsComplete, own_of, own_after}
use Rattle.checkout_core.specs.Fates.{Fate, verdict_from, told_verdict}
use Rattle.checkout_book.specs.declared.plan.BookPlan.{BookPlan}
use Rattle.checkout_book.specs.declared.shelf.Slot.{Slot}
use Rattle.checkout_book.specs.declared.shelf.Slot.TheVariants.{Away, Waits, Ended}
use Rattle.checkout_book.specs.Shape.{Shelf}
use Rattle.checkout_book.specs.Sights.{Sight, seen}
use Rattle.checkout_book.specs.Shelves.{plan_of, cards_of, IsRow, Lies}
use Rattle.checkout_book.specs.Ending.{parts_in}
use Rattle.edge_kit.specs.Seen.{BlobSeen, LeafSeen}
use Rattle.writer_pool.specs.Closing.{IsFromBook, EndsAtDesk, EndsCard, ClosesCard}
use Rattle.card_worker.specs.Writing.{WritesCard}
use Rattle.writer_pool.specs.Ends.{IsThrough, IsRun, IsEndOf, AreEnds}
use Rattle.writer_pool.specs.Sealing.{EndsAt, EndsOn, leaf_at, leaf_in_slot}
use Rattle.writer_pool.proofs.Places.{some_is, same_or}
use Rattle.writer_pool.proofs.Dealt.{IsFitting}
use Rattle.writer_pool.proofs.Resting.{TakesPath, ClosesPath, ended_at}
use Rattle.writer_pool.proofs.Rows.{BacksPath, KeepsPaths, claimed_back}
use Rattle.writer_pool.proofs.CoreMoves.{ends_closed}

-- a complete history tells each verdict
abbrev pub TellsVerdict : Type 0
TellsVerdict = (starts : List Start) (workers drivers : ℕ) (history : List Event) (x : Core) → AreBelow drivers starts
    → IsLegal starts workers drivers history x → IsComplete x → (p : ℕ) (s : Start) → slice_get starts p ≡ Some s
    → verdict_at x p ≡ told_verdict starts history p s

-- how the events move their paths
pub record MovesPaths : Type 0 where
  pub takes : TakesPath
  pub closes : ClosesPath
  pub backs : BacksPath
  pub keeps : KeepsPaths

abbrev Found : ℕ → Own → List Event → Type 0
Found p w es = (i : ℕ) × (a : ℕ) × (slice_get es i ≡ Some (Close p a w))

after_is : (p : ℕ) (o : Option Own) (e : Event) (w : Own) (es : List Event) → own_after p o e ≡ Some w
    → (o ≡ Some w) ⊎ Found p w (e ∷ es)
after_is p o (ev.Close q a x) w es h = ⊎_elim
    (λ (k : (p ≡ q) × ((p == q) ≡ true)).
    let is : x ≡ w = some_is x w (sym (ap (λ (b : Bool). cond b (Some x) o) k.1) ∙ h) in
    inr (zero, a, ap (λ j. Some (ev.Close j a x)) (sym k.0) ∙ ap (λ z. Some (ev.Close p a z)) is))
    (λ (k : ((p ≡ q) → ⊥) × ((p == q) ≡ false)). inl (sym (ap (λ (b : Bool). cond b (Some x) o) k.1) ∙ h))
    (same_or p q)
after_is p o (ev.Claim q a) w es h = inl h
after_is p o (ev.Opened d c) w es h = inl h
after_is p o (ev.OpenFailed q c) w es h = inl h
after_is p o (ev.Answered q y) w es h = inl h
after_is p o (ev.Named q) w es h = inl h
after_is p o (ev.Listed d y) w es h = inl h
after_is p o (ev.Redone q y) w es h = inl h
after_is p o (ev.HandBack q) w es h = inl h
after_is p o (ev.Shut d) w es h = inl h

own_found : (p : ℕ) (o : Option Own) (es : List Event) (w : Own) → own_of p o es ≡ Some w → (o ≡ Some w) ⊎ Found p w es
own_found p o [] w h = inl h
own_found p o (e ∷ es) w h = ⊎_elim
    (λ (k : own_after p o e ≡ Some w). after_is p o e w es k)
    (λ (k : Found p w es). inr (suc k.0, k.1, k.2))
    (own_found p (own_after p o e) es w h)

-- the close that an own outcome comes from
found : (p : ℕ) (es : List Event) (w : Own) → own_of p None es ≡ Some w → Found p w es
found p es w h = ⊎_elim (λ (k : None ≡ Some w). absurd (cc (k))) (λ (k : Found p w es). k) (own_found p None es w h)

-- a path that isn't closed from the start was closed with an own outcome
own_there : (s : Start) (f : Fate) (o : Option Own) (v : Verdict) → ((w : Verdict) → s ≡ Done w → ⊥)
    → verdict_from s f o ≡ Some v → (w : Own) × (o ≡ Some w)
own_there s f (Some w) v n h = (w, refl)
own_there Pool f None v n h = absurd (cc (h))
own_there (Desk d u) f None v n h = absurd (cc (h))
own_there (Done w) f None v n h = absurd (n w refl)

module _ {B L : Type 0} where
  pub parts_fewer : (slots : List (Slot B L)) → length (parts_in slots) ≤ length slots
  parts_fewer [] = omega arith
  parts_fewer (Ended b l ∷ ss) = let h = parts_fewer ss in omega (arith, h)
  parts_fewer (Away ∷ ss) = let h = parts_fewer ss in omega (arith, h)
  parts_fewer (Waits c ∷ ss) = let h = parts_fewer ss in omega (arith, h)

module _ {B L : Type 0} (see : Sight B L) where
  row_at : (cards : List (Card B L)) (p : ℕ) (x : Slot B L) (o : Option (Slot B L)) (r : Option Path) → o ≡ Some x
      → IsRow see cards p o r → (row : Path) × (r ≡ Some row) × Lies see cards p x row.state
  row_at cards p x None None e h = absurd (cc (e))
  row_at cards p x None (Some r) e h = absurd h
  row_at cards p x (Some y) None e h = absurd h
  row_at cards p x (Some y) (Some r) e h =
      let is : y ≡ x = cc (e) in
      (r, refl, subst (λ (z : Slot B L). Lies see cards p z r.state) is h)

  -- as many slots as paths
  pub rows_length : (cards : List (Card B L)) (p : ℕ) (slots : List (Slot B L)) (rows : List Path)
      → ((q : ℕ) → IsRow see cards (p + q) (slice_get slots q) (slice_get rows q)) → length slots ≡ length rows
  rows_length cards p [] [] h = refl
  rows_length cards p [] (r ∷ rows) h = absurd (h 0)
  rows_length cards p (x ∷ slots) [] h = absurd (h 0)
  rows_length cards p (x ∷ slots) (r ∷ rows) h = ap suc (rows_length cards (suc p) slots rows (λ q.
      let e : p + suc q ≡ suc p + q = omega arith in
      subst (λ j. IsRow see cards j (slice_get slots q) (slice_get rows q)) e (h (suc q))))

  -- what lies in the slot of a path at the end
  abbrev Fit : List Start → List Event → List (Card B L) → ℕ → Start → Slot B L → Type 0
  Fit starts history cards p (Done v) x = x ≡ Away
  Fit starts history cards p Pool x = (b : B) × (l : L) × (x ≡ Ended b l) × IsEndOf see starts history cards p b l
  Fit starts history cards p (Desk d u) x =
      (b : B) × (l : L) × (x ≡ Ended b l) × IsEndOf see starts history cards p b l

  -- the blobs and the leaves of these slots are those of the paths from p on
  abbrev EndsOf : List Start → List Event → List (Card B L) → ℕ → List Start → List (Slot B L) → Type 0
  EndsOf starts history cards p ss xs = AreEnds see starts history cards p ss
      (map (λ (x : B × L). x.0) (parts_in xs)) (map (λ (x : B × L). x.1) (parts_in xs))

  one_more : (starts : List Start) (history : List Event) (cards : List (Card B L)) (p : ℕ) (ss : List Start)
      (xs : List (Slot B L)) (s : Start) (x : Slot B L) → Fit starts history cards p s x
      → EndsOf starts history cards (suc p) ss xs → EndsOf starts history cards p (s ∷ ss) (x ∷ xs)
  one_more starts history cards p ss xs (Done v) x f r =
      subst (λ (y : Slot B L). EndsOf starts history cards p (Done v ∷ ss) (y ∷ xs)) (sym f) r
  one_more starts history cards p ss xs Pool x f r =
      subst (λ (y : Slot B L). EndsOf starts history cards p (Pool ∷ ss) (y ∷ xs)) (sym f.2) (f.3, r)
  one_more starts history cards p ss xs (Desk d u) x f r =
      subst (λ (y : Slot B L). EndsOf starts history cards p (Desk d u ∷ ss) (y ∷ xs)) (sym f.2) (f.3, r)

  ends_in_order : (starts : List Start) (history : List Event) (cards : List (Card B L)) (p : ℕ) (ss : List Start)
      (xs : List (Slot B L)) → length xs ≡ length ss
      → ((i : ℕ) (s : Start) (x : Slot B L) → slice_get ss i ≡ Some s → slice_get xs i ≡ Some x
      → Fit starts history cards (p + i) s x)
      → EndsOf starts history cards p ss xs
  ends_in_order starts history cards p [] [] e h = tt
  ends_in_order starts history cards p [] (x ∷ xs) e h = absurd (omega arith)
  ends_in_order starts history cards p (s ∷ ss) [] e h = absurd (omega arith)
  ends_in_order starts history cards p (s ∷ ss) (x ∷ xs) e h =
      let n : p + 0 ≡ p = omega arith in
      one_more starts history cards p ss xs s x (subst (λ j. Fit starts history cards j s x) n (h 0 s x refl refl))
      (ends_in_order starts history cards (suc p) ss xs (omega arith) (λ i t y a b.
      let m : p + suc i ≡ suc p + i = omega arith in
      subst (λ j. Fit starts history cards j t y) m (h (suc i) t y a b)))

  pub completed : (d : BookPlan B L) (s : Shelf B L) → IsThrough see d s → IsComplete s.core
  completed d s t = ends_closed s.core t.none t.quiet.hands t.quiet.away

  pub ran : (d : BookPlan B L) (s : Shelf B L) (vs : List Verdict) → IsThrough see d s
      → ((p : ℕ) → slice_get vs p ≡ verdict_at s.core p)
      → IsRun d.starts.items d.workers d.drivers s.events.items vs
  ran d s vs t each = subst (λ (x : BookPlan B L). IsRun x.starts.items x.workers x.drivers s.events.items vs) t.plan record {
    core = s.core;
    legal = t.quiet.goes_on.sound.run;
    complete = completed d s t;
    each = each;
  }

  -- a card that an actor had from the book might leave its desk
  closes_card : MovesPaths → (s : Shelf B L) → IsThrough see (plan_of s) s → (p i a : ℕ) (o : Own) (card : CardSeen)
      (blob : BlobSeen) (leaf : LeafSeen) → EndsCard s.starts.value.items s.events.items i p a o card blob leaf
      → ClosesCard s.starts.value.items s.events.items i p a o card blob leaf
  closes_card moves s t p i a o card blob leaf ends = ⊎_elim
      (λ (h : IsFromBook s.starts.value.items s.events.items i p a × WritesCard card o blob leaf). inl (
        λ q required begun.
            let back = claimed_back moves.takes moves.closes moves.backs moves.keeps s.starts.value.items s.workers
            s.drivers s.events.items s.core t.quiet.goes_on.sound.run i p a q required begun h.0 in
            t.quiet.backs back.0 p q required back.1 begun,
        h.1,
      ))
      (λ (h : EndsAtDesk s.starts.value.items s.events.items i p a o card blob leaf). inr h)
      ends

  -- the end of a path that isn't closed from the start
  end_of : MovesPaths → TellsVerdict → (s : Shelf B L) → IsThrough see (plan_of s) s
      → IsFitting s.starts.value.items (cards_of (plan_of s)) → (p : ℕ) (st : Start) (x : Slot B L)
      → slice_get s.starts.value.items p ≡ Some st → ((w : Verdict) → st ≡ Done w → ⊥)
      → slice_get s.slots.items p ≡ Some x
      → (b : B) × (l : L) × (x ≡ Ended b l)
      × IsEndOf see s.starts.value.items s.events.items (cards_of (plan_of s)) p b l
  end_of moves tells s t fits p st x at other there =
      let cards = cards_of (plan_of s) in
      let sound = t.quiet.goes_on.sound in
      let r = row_at cards p x (slice_get s.slots.items p) (slice_get s.core.paths p) there (sound.rows p) in
      let done = completed (plan_of s) s t in
      let v = done p r.0 r.1 in
      let verdict : verdict_at s.core p ≡ Some v.0 =
      ap (λ (o : Option Path). elim o as (λ _. Option Verdict) [ None ↦ None | Some w ↦ verdict_of w.state ]) r.1
      ∙ ap verdict_of v.1 in
      let o = own_there st _ (own_of p None s.events.items) v.0 other (sym (tells s.starts.value.items s.workers
      s.drivers s.events.items s.core sound.below sound.run done p st at) ∙ verdict) in
      let f = found p s.events.items o.0 o.1 in
      let e = ended_at s.slots.items s.events.items f.0 p f.1 o.0 sound.ended f.2 in
      let is : x ≡ Ended e.0 e.1 = some_is x (Ended e.0 e.1) (sym there ∙ e.2) in
      let from = (subst (λ (y : Slot B L). Lies see cards p y (r.0).state) is r.2).1 in (
        e.0,
        e.1,
        is,
        (
          from.0,
          from.1,
          from.2,
          from.3,
          record {
            actor = f.1;
            own = o.0;
            place = f.0;
            entry = f.2 ∙ ap (λ j. Some (Close j f.1 o.0)) (sym from.3);
            own_is = ap (λ (j : ℕ). own_of j None s.events.items) from.3 ∙ o.1;
            told = from.4;
            name = from.5;
            path = from.6;
            ends =
                let starts = s.starts.value.items in
                let h = t.quiet.closed f.0 p f.1 o.0 f.2 in
                let slot : Ended h.0 h.1 ≡ Ended e.0 e.1 = some_is (Ended h.0 h.1) (Ended e.0 e.1) (sym h.2 ∙ e.2) in
                let blob : h.0 ≡ e.0 = cc (slot) in
                let leaf : h.1 ≡ e.1 = cc (slot) in
                let same : h.4 ≡ from.1 = fits.one h.3 from.0 h.4 from.1 h.5 from.2 (h.6 ∙ sym from.3) in
                subst (λ (j : ℕ). ClosesCard starts s.events.items f.0 j f.1 o.0 (seen see from.1) (see.blob e.0)
                (see.leaf e.1)) (sym from.3)
                (subst (λ (c : Card B L). ClosesCard starts s.events.items f.0 p f.1 o.0 (seen see c) (see.blob e.0)
                (see.leaf e.1)) same
                (subst (λ (l : L). ClosesCard starts s.events.items f.0 p f.1 o.0 (seen see h.4) (see.blob e.0)
                (see.leaf l)) leaf
                (subst (λ (b : B). ClosesCard starts s.events.items f.0 p f.1 o.0 (seen see h.4) (see.blob b)
                (see.leaf h.1)) blob
                (closes_card moves s t p f.0 f.1 o.0 (seen see h.4) (see.blob h.0) (see.leaf h.1) h.7))));
          },
        ),
      )

  -- nothing lies in the slot of a path that is closed from the start
  nothing_at : (starts : List Start) (cards : List (Card B L)) → IsFitting starts cards → (p : ℕ) (w : Verdict)
      (x : Slot B L) (s : PathState) → slice_get starts p ≡ Some (Done w) → Lies see cards p x s → x ≡ Away
  nothing_at starts cards fits p w Away s at lies = refl
  nothing_at starts cards fits p w (Waits c) s at lies = absurd (
      let q = lies.2 in
      let is : q.1.path ≡ p = sym (ap (λ (z : CardSeen). z.path) q.3) ∙ lies.1 in
      fits.unclosed q.0 q.1 w q.2 (ap (slice_get starts) is ∙ at))
  nothing_at starts cards fits p w (Ended b l) s at lies = absurd (
      let q = lies.1 in
      fits.unclosed q.0 q.1 w q.2 (ap (slice_get starts) q.3 ∙ at))

  fit_at : MovesPaths → TellsVerdict → (s : Shelf B L) → IsThrough see (plan_of s) s
      → IsFitting s.starts.value.items (cards_of (plan_of s)) → (i : ℕ) (st : Start) (x : Slot B L)
      → slice_get s.starts.value.items i ≡ Some st → slice_get s.slots.items i ≡ Some x
      → Fit s.starts.value.items s.events.items (cards_of (plan_of s)) i st x
  fit_at moves tells s t fits i (Done w) x at there =
      let r = row_at (cards_of (plan_of s)) i x (slice_get s.slots.items i) (slice_get s.core.paths i) there
      (t.quiet.goes_on.sound.rows i) in
      nothing_at s.starts.value.items (cards_of (plan_of s)) fits i w x (r.0).state at r.2
  fit_at moves tells s t fits i Pool x at there = end_of moves tells s t fits i Pool x at (λ w e. absurd (cc (e))) there
  fit_at moves tells s t fits i (Desk e u) x at there =
      end_of moves tells s t fits i (Desk e u) x at (λ w h. absurd (cc (h))) there

  all_ends : MovesPaths → TellsVerdict → (s : Shelf B L) → IsThrough see (plan_of s) s
      → IsFitting s.starts.value.items (cards_of (plan_of s)) → length s.slots.items ≡ length s.starts.value.items
      → AreEnds see s.starts.value.items s.events.items (cards_of (plan_of s)) 0 s.starts.value.items
      (map (λ (x : B × L). x.0) (parts_in s.slots.items)) (map (λ (x : B × L). x.1) (parts_in s.slots.items))
  all_ends moves tells s t fits long =
      ends_in_order s.starts.value.items s.events.items (cards_of (plan_of s)) 0 s.starts.value.items s.slots.items long
      (λ i st x at there.
      let n : i ≡ 0 + i = omega arith in
      subst (λ j. Fit s.starts.value.items s.events.items (cards_of (plan_of s)) j st x) n
      (fit_at moves tells s t fits i st x at there))

  -- nothing lies in the slot of a path that is closed from the start, and in each other one a closed card
  abbrev IsKind : Start → Slot B L → Type 0
  IsKind (Done v) x = x ≡ Away
  IsKind Pool x = (b : B) × (l : L) × (x ≡ Ended b l)
  IsKind (Desk d u) x = (b : B) × (l : L) × (x ≡ Ended b l)

  kind_of : (starts : List Start) (history : List Event) (cards : List (Card B L)) (p : ℕ) (st : Start)
      (x : Slot B L) → Fit starts history cards p st x → IsKind st x
  kind_of starts history cards p (Done v) x f = f
  kind_of starts history cards p Pool x f = (f.0, f.1, f.2)
  kind_of starts history cards p (Desk d u) x f = (f.0, f.1, f.2)

  abbrev LeafStays : List Start → List (Slot B L) → ℕ → L → Type 0
  LeafStays ss xs p leaf = leaf_at ss (map (λ (x : B × L). x.1) (parts_in xs)) p ≡ Some leaf
      → leaf_in_slot (slice_get xs p) ≡ Some leaf

  -- the leaf of a path is that of its slot
  ended_leaf : (s : Start) (ss : List Start) (b : B) (l : L) (xs : List (Slot B L)) (p : ℕ) (leaf : L)
      → ((v : Verdict) → s ≡ Done v → ⊥) → ((q : ℕ) → LeafStays ss xs q leaf)
      → LeafStays (s ∷ ss) (Ended b l ∷ xs) p leaf
  ended_leaf (Done v) ss b l xs p leaf other more e = absurd (other v refl)
  ended_leaf Pool ss b l xs zero leaf other more e = e
  ended_leaf Pool ss b l xs (suc p) leaf other more e = more p e
  ended_leaf (Desk d u) ss b l xs zero leaf other more e = e
  ended_leaf (Desk d u) ss b l xs (suc p) leaf other more e = more p e

  done_leaf : (v : Verdict) (ss : List Start) (xs : List (Slot B L)) (p : ℕ) (leaf : L)
      → ((q : ℕ) → LeafStays ss xs q leaf) → LeafStays (Done v ∷ ss) (Away ∷ xs) p leaf
  done_leaf v ss xs zero leaf more e = absurd (cc (e))
  done_leaf v ss xs (suc p) leaf more e = more p e

  slot_leaf : (s : Start) (ss : List Start) (x : Slot B L) (xs : List (Slot B L)) (p : ℕ) (leaf : L) → IsKind s x
      → ((q : ℕ) → LeafStays ss xs q leaf) → LeafStays (s ∷ ss) (x ∷ xs) p leaf
  slot_leaf (Done v) ss x xs p leaf kind more =
      subst (λ (y : Slot B L). LeafStays (Done v ∷ ss) (y ∷ xs) p leaf) (sym kind) (done_leaf v ss xs p leaf more)
  slot_leaf Pool ss x xs p leaf kind more =
      subst (λ (y : Slot B L). LeafStays (Pool ∷ ss) (y ∷ xs) p leaf) (sym kind.2)
      (ended_leaf Pool ss kind.0 kind.1 xs p leaf (λ w e. cc (e)) more)
  slot_leaf (Desk d u) ss x xs p leaf kind more =
      subst (λ (y : Slot B L). LeafStays (Desk d u ∷ ss) (y ∷ xs) p leaf) (sym kind.2)
      (ended_leaf (Desk d u) ss kind.0 kind.1 xs p leaf (λ w e. cc (e)) more)

  leaf_stays : (ss : List Start) (xs : List (Slot B L)) (leaf : L) → length xs ≡ length ss
      → ((i : ℕ) (s : Start) (x : Slot B L) → slice_get ss i ≡ Some s → slice_get xs i ≡ Some x → IsKind s x)
      → (p : ℕ) → LeafStays ss xs p leaf
  leaf_stays [] xs leaf e h p there = absurd (cc (there))
  leaf_stays (s ∷ ss) [] leaf e h p there = absurd (omega arith)
  leaf_stays (s ∷ ss) (x ∷ xs) leaf e h p there =
      slot_leaf s ss x xs p leaf (h 0 s x refl refl)
      (λ q. leaf_stays ss xs leaf (omega arith) (λ i t y a b. h (suc i) t y a b) q) there

  plan_seals : MovesPaths → TellsVerdict → (s : Shelf B L) → IsThrough see (plan_of s) s
      → IsFitting s.starts.value.items (cards_of (plan_of s)) → length s.slots.items ≡ length s.starts.value.items
      → (q p : ℕ) (leaf : LeafSeen)
      → EndsAt see s.starts.value.items s.events.items
      (leaf_at s.starts.value.items (map (λ (x : B × L). x.1) (parts_in s.slots.items))) q p leaf
      → EndsOn see s q p leaf
  plan_seals moves tells s t fits long q p leaf z = record {
    place = z.place;
    actor = z.actor;
    own = z.own;
    required = z.required;
    leaf = z.leaf;
    entry = z.entry;
    desk = z.desk;
    there = leaf_stays s.starts.value.items s.slots.items z.leaf long (λ i st x at there.
        kind_of s.starts.value.items s.events.items (cards_of (plan_of s)) i st x (fit_at moves tells s t fits i st x at there))
        p z.there;
    is = z.is;
  }

  -- the leaf of a card that a desk closed is that of its path's slot
  pub seals_there : MovesPaths → TellsVerdict → (d : BookPlan B L) (s : Shelf B L) → IsThrough see d s
      → IsFitting d.starts.items (cards_of d) → length s.slots.items ≡ length d.starts.items → (q p : ℕ)
      (leaf : LeafSeen)
      → EndsAt see d.starts.items s.events.items
      (leaf_at d.starts.items (map (λ (x : B × L). x.1) (parts_in s.slots.items))) q p leaf
      → EndsOn see s q p leaf
  seals_there moves tells d s t fits long q p leaf z =
      plan_seals moves tells s (record { quiet = t.quiet; plan = refl; none = t.none })
      (subst (λ (x : BookPlan B L). IsFitting x.starts.items (cards_of x)) (sym t.plan) fits)
      (long ∙ ap (λ (x : BookPlan B L). length x.starts.items) (sym t.plan)) q p leaf
      (subst (λ (x : BookPlan B L). EndsAt see x.starts.items s.events.items
      (leaf_at x.starts.items (map (λ (x : B × L). x.1) (parts_in s.slots.items))) q p leaf) (sym t.plan) z)

  pub ends_are : MovesPaths → TellsVerdict → (d : BookPlan B L) (s : Shelf B L) → IsThrough see d s
      → IsFitting d.starts.items (cards_of d) → length s.slots.items ≡ length d.starts.items
      → AreEnds see d.starts.items s.events.items (cards_of d) 0 d.starts.items
      (map (λ (x : B × L). x.0) (parts_in s.slots.items)) (map (λ (x : B × L). x.1) (parts_in s.slots.items))
  ends_are moves tells d s t fits long = subst (λ (x : BookPlan B L). AreEnds see x.starts.items s.events.items (cards_of x) 0
      x.starts.items (map (λ (x : B × L). x.0) (parts_in s.slots.items))
      (map (λ (x : B × L). x.1) (parts_in s.slots.items))) t.plan
      (all_ends moves tells s (record { quiet = t.quiet; plan = refl; none = t.none })
      (subst (λ (x : BookPlan B L). IsFitting x.starts.items (cards_of x)) (sym t.plan) fits)
      (long ∙ ap (λ (x : BookPlan B L). length x.starts.items) (sym t.plan)))

abbrev pub KeepsSize : Type 0
KeepsSize = (starts : List Start) (workers drivers : ℕ) (history : List Event) (x : Core)
    → IsLegal starts workers drivers history x
    → (x.workers ≡ workers) × (length x.drivers ≡ drivers) × (length x.paths ≡ length starts)

module _ {B L : Type 0} (see : Sight B L) where
  pub paths_count : KeepsSize → (d : BookPlan B L) (s : Shelf B L) → IsThrough see d s
      → length s.core.paths ≡ length d.starts.items
  paths_count law d s t =
      (law s.starts.value.items s.workers s.drivers s.events.items s.core t.quiet.goes_on.sound.run).2
      ∙ ap (λ (x : BookPlan B L). length x.starts.items) t.plan

  pub slots_count : KeepsSize → (d : BookPlan B L) (s : Shelf B L) → IsThrough see d s
      → length s.slots.items ≡ length d.starts.items
  slots_count law d s t =
      rows_length see (cards_of (plan_of s)) 0 s.slots.items s.core.paths (λ q.
      let n : q ≡ 0 + q = omega arith in
      subst (λ j. IsRow see (cards_of (plan_of s)) j (slice_get s.slots.items q) (slice_get s.core.paths q)) n
      (t.quiet.goes_on.sound.rows q))
      ∙ paths_count law d s t
