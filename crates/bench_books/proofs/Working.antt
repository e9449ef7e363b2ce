-- A pass that claims and closes.
use Rattle.std.proofs.Common.{◌≡◌, ◌==◌, ℕ, zero, suc, ◌+◌, ◌<◌, ◌⊎◌, inl, inr, ⊎_elim, Bool, true, false}
use Rattle.std.proofs.Common.{cond, List, []}
use Rattle.std.proofs.Common.{◌∷◌, ◌++◌, length, length-append, Option, Some, None, refl, sym, ap, ◌∙◌, subst, arith}
use Rattle.std.proofs.lemmas.List.{append-nil}
use Rattle.std.specs.Prelude.{slice_get}
use Rattle.std.specs.Global.{Vec}
use Rattle.atomic_table.specs.Seated.{TableId}
use Rattle.turn_lock.specs.Seat.{SeatView, number_of}
use Rattle.convert_plan.specs.declared.card.Card.{Card}
use Rattle.checkout_core.specs.declared.verdict.FilterCause.{FilterCause}
use Rattle.checkout_core.specs.declared.verdict.Own.{Own}
use Rattle.checkout_core.specs.declared.verdict.Own.TheVariants as own
use Rattle.checkout_core.specs.declared.verdict.Verdict.{Verdict}
use Rattle.checkout_core.specs.declared.event.Event.{Event}
use Rattle.checkout_core.specs.declared.event.Event.TheVariants.{Close}
use Rattle.checkout_core.specs.declared.path.Start.{Start}
use Rattle.checkout_core.specs.declared.path.Start.TheVariants.{Pool, Desk}
use Rattle.checkout_core.specs.States.{Core, AreBelow}
use Rattle.checkout_core.specs.Actors.{is_step}
use Rattle.checkout_core.specs.Hands.{Holds, held_at}
use Rattle.checkout_core.specs.Verdicts.{held_close, raw_verdict}
use Rattle.checkout_book.specs.declared.plan.BookPlan.{BookPlan}
use Rattle.checkout_book.specs.declared.plan.Parts.{Parts}
use Rattle.checkout_book.specs.declared.plan.HistoryEntry.{HistoryEntry}
use Rattle.checkout_book.specs.Sights.{Sight, seen}
use Rattle.checkout_book.specs.Shape.{Shelf}
use Rattle.checkout_book.specs.Shelves.{joined}
use Rattle.checkout_book.specs.Ending.{IsTaken}
use Rattle.checkout_book.specs.Passes.{IsPass, TookNone, TookCard, Closes, Appends}
use Rattle.checkout_book.specs.Reserving.{ArePool, AreDealt, AreNew, HasNothing, AreIdle}
use Rattle.convert_plan.specs.Card.{IsNewCard}
use Rattle.bench_books.specs.Pools.{IsPool}

-- a path in hand may be closed
abbrev pub MayClose : Type 0
MayClose = (c : Core) (p a : ℕ) (raw : Option FilterCause) (o : Own) (v : Verdict) → Holds c p a raw
    → held_close raw o ≡ Some v → is_step c (Close p a o) ≡ true

closed_hands : (b held : Bool) → held ≡ false → cond b false (cond b true held) ≡ false
closed_hands true held h = refl
closed_hands false held h = h

pub fine : (raw : Option FilterCause) → held_close raw (own.Fine false) ≡ Some (raw_verdict raw false)
fine None = refl
fine (Some c) = refl

module _ {B L : Type 0} where
  -- the pass, by its own number
  pub by_number : (lock : TableId) (d : BookPlan B L) (n made : ℕ) (s : SeatView HistoryEntry (BookPlan B L)) (c : Core)
      → IsPass lock d n made s c → IsPass lock d (number_of s) made s c
  by_number lock d n made s c pass = subst (λ k. IsPass lock d k made s c) (sym (pass.seat).named) pass

  -- a pass that has nothing in hand, by its own number
  pub own_number : (lock : TableId) (d : BookPlan B L) (n made : ℕ) (s : SeatView HistoryEntry (BookPlan B L))
      → HasNothing lock d n made s → HasNothing lock d (number_of s) made s
  own_number lock d n made s h = subst (λ (k : ℕ). HasNothing lock d k made s) (sym h.1.seat.named) h

  -- what a pass that works has after it
  pub after_work : (lock : TableId) (d : BookPlan B L) (n made : ℕ) (old new : SeatView HistoryEntry (BookPlan B L))
      → HasNothing lock d n made old
      → (HasNothing lock d (number_of old) made old → HasNothing lock d (number_of old) made new)
      → HasNothing lock d n made new
  after_work lock d n made old new h post =
      subst (λ (k : ℕ). HasNothing lock d k made new) h.1.seat.named (post (own_number lock d n made old h))

  pub may_close : MayClose → (see : Sight B L) (lock : TableId) (d : BookPlan B L) (n made : ℕ)
      (old new : SeatView HistoryEntry (BookPlan B L)) (c x : Core) (k : Card B L)
      → TookCard see lock d n made old new c x k
      → is_step x (Close k.path (number_of new) (own.Fine false)) ≡ true
  may_close law see lock d n made old new c x k took =
      subst (λ (m : ℕ). is_step x (Close k.path m (own.Fine false)) ≡ true) (sym (took.turn).pass.seat.named)
      (law x k.path n took.raw (own.Fine false) (raw_verdict took.raw false) took.holds (fine took.raw))

  -- a card that the caller took may be closed
  pub taken_may_close : MayClose → (see : Sight B L) (n : ℕ) (s : Shelf B L) (k : Card B L) → IsTaken see n s k
      → is_step s.core (Close k.path n (own.Fine false)) ≡ true
  taken_may_close law see n s k t =
      law s.core k.path n t.raw (own.Fine false) (raw_verdict t.raw false) t.holds (fine t.raw)

  -- after a claim that got nothing
  pub after_none : (lock : TableId) (d : BookPlan B L) (n made : ℕ) (old new : SeatView HistoryEntry (BookPlan B L))
      (h : HasNothing lock d n made old) (x : Core) → TookNone lock d (number_of old) made old new h.0 x
      → HasNothing lock d n made new
  after_none lock d n made old new h x took =
      let t = subst (λ (k : ℕ). TookNone lock d k made old new h.0 x) h.1.seat.named took in
      (x, t.turn.pass, λ q. t.hands q ∙ h.2 q)

  -- after a claim whose card was closed
  pub after_card : (see : Sight B L) (lock : TableId) (d : BookPlan B L) (n made : ℕ)
      (old new last : SeatView HistoryEntry (BookPlan B L)) (h : HasNothing lock d n made old) (x : Core) (k : Card B L) (o : Own)
      (parts : Parts) → TookCard see lock d (number_of old) made old new h.0 x k
      → Closes lock d (number_of new) made new last x k.path o parts → HasNothing lock d n made last
  after_card see lock d n made old new last h x k o parts took closed =
      let t = subst (λ (m : ℕ). TookCard see lock d m made old new h.0 x k) h.1.seat.named took in
      let u = subst (λ (m : ℕ). Closes lock d m made new last x k.path o parts) t.turn.pass.seat.named closed in (
        u.core,
        u.turn.pass,
        λ q. u.hands q ∙ (ap (λ (b : Bool). cond (q == k.path) false b) (t.hands q)
            ∙ closed_hands (q == k.path) (held_at h.0 n q) (h.2 q)),
      )

  -- a note of a pass, by its number
  pub note_named : (lock : TableId) (d : BookPlan B L) (n made : ℕ) (old new : SeatView HistoryEntry (BookPlan B L)) (c : Core)
      (e : Event) → number_of old ≡ n → Appends lock d (number_of old) made old new c e
      → Appends lock d n made old new c e
  note_named lock d n made old new c e is t = subst (λ (k : ℕ). Appends lock d k made old new c e) is t

within : {A : Type 0} (xs : List A) (i : ℕ) → i < length xs → (x : A) × (slice_get xs i ≡ Some x)
within [] i l = absurd (omega arith)
within (x ∷ xs) zero l = (x, refl)
within (x ∷ xs) (suc i) l = within xs i (omega arith)

empty_none : {A : Type 0} (i : ℕ) (x : A) → slice_get [] i ≡ Some x → ⊥
empty_none i x e = absurd (cc (e))

there_within : {A : Type 0} (xs : List A) (i : ℕ) (x : A) → slice_get xs i ≡ Some x → i < length xs
there_within [] i x e = absurd (cc (e))
there_within (y ∷ xs) zero x e = omega arith
there_within (y ∷ xs) (suc i) x e = let h = there_within xs i x e in omega arith

get_pushed : {A : Type 0} (xs : List A) (x y : A) (i : ℕ) → slice_get (xs ++ x ∷ []) i ≡ Some y
    → (slice_get xs i ≡ Some y) ⊎ ((i ≡ length xs) × (x ≡ y))
get_pushed [] x y zero e = let is : x ≡ y = cc (e) in inr (refl, is)
get_pushed [] x y (suc i) e = absurd (cc (e))
get_pushed (z ∷ xs) x y zero e = inl e
get_pushed (z ∷ xs) x y (suc i) e = ⊎_elim
    (λ (h : slice_get xs i ≡ Some y). inl h)
    (λ (h : (i ≡ length xs) × (x ≡ y)). inr (ap suc h.0, h.1))
    (get_pushed xs x y i e)

module _ {B L : Type 0} (see : Sight B L) where
  pub pool_there : (n : ℕ) (starts : List Start) (cards : List (Card B L)) → IsPool see n starts cards
      → ArePool starts cards
  pool_there n starts cards pool = record { there = there; all = all; rises = rises }
    where
      there : (k : ℕ) (c : Card B L) → slice_get cards k ≡ Some c → slice_get starts c.path ≡ Some Pool
      there k c at =
          let lt = there_within cards k c at in
          let s = within starts k (omega (arith, lt, pool.cards_count, pool.starts_count)) in
          ap (slice_get starts) (pool.new k c at).0 ∙ (s.1 ∙ ap (λ z. Some z) (pool.waiting k s.0 s.1))

      all : (p : ℕ) → slice_get starts p ≡ Some Pool
          → (k : ℕ) × (c : Card B L) × (slice_get cards k ≡ Some c) × (c.path ≡ p)
      all p at =
          let lt = there_within starts p Pool at in
          let c = within cards p (omega (arith, lt, pool.cards_count, pool.starts_count)) in
          (p, c.0, c.1, (pool.new p c.0 c.1).0)

      rises : (i j : ℕ) (a b : Card B L) → i < j → slice_get cards i ≡ Some a → slice_get cards j ≡ Some b
          → a.path < b.path
      rises i j a b lt at later = omega (arith, lt, (pool.new i a at).0, (pool.new j b later).0)

  pub pool_new : (n : ℕ) (starts : List Start) (cards : List (Card B L)) → IsPool see n starts cards
      → AreNew see cards
  pool_new n starts cards pool k c at = (pool.new k c at).1

  pub pool_all_new : (n : ℕ) (starts : List Start) (cards : List (Card B L)) (desks : List (Vec (Card B L)))
      → IsPool see n starts cards → desks ≡ [] → AreNew see (cards ++ joined desks)
  pool_all_new n starts cards desks pool none =
      subst (λ (ds : List (Vec (Card B L))). AreNew see (cards ++ joined ds)) (sym none)
      (subst (AreNew see) (sym (append-nil cards)) (pool_new n starts cards pool))

  pub none_dealt : (starts : List Start) (desks : List (Vec (Card B L))) → desks ≡ [] → AreDealt starts 0 desks
  none_dealt starts desks none = subst (AreDealt starts 0) (sym none) tt

  pub pool_below : (n drivers : ℕ) (starts : List Start) (cards : List (Card B L)) → IsPool see n starts cards
      → AreBelow drivers starts
  pool_below n drivers starts cards pool p d required at =
      absurd (let e : Desk d required ≡ Pool = pool.waiting p (Desk d required) at in cc (e))

  pub pool_none : (starts : List Start) (cards : List (Card B L)) → starts ≡ [] → cards ≡ []
      → IsPool see 0 starts cards
  pool_none starts cards s c = record {
    starts_count = ap length s;
    cards_count = ap length c;
    waiting = λ p x at. absurd (let e : slice_get [] p ≡ Some x = ap (λ l. slice_get l p) (sym s) ∙ at in
        empty_none p x e);
    new = λ k x at. absurd (let e : slice_get [] k ≡ Some x = ap (λ l. slice_get l k) (sym c) ∙ at in
        empty_none k x e);
  }

  -- one card more
  pub pool_more : (n : ℕ) (starts after : List Start) (cards more : List (Card B L)) (c : Card B L)
      → IsPool see n starts cards → c.path ≡ n → IsNewCard (seen see c) → after ≡ starts ++ Pool ∷ []
      → more ≡ cards ++ c ∷ [] → IsPool see (n + 1) after more
  pool_more n starts after cards more c pool path new s m = record {
    starts_count = omega (arith, ap length s, length-append starts (Pool ∷ []), pool.starts_count);
    cards_count = omega (arith, ap length m, length-append cards (c ∷ []), pool.cards_count);
    waiting = λ p x at. ⊎_elim
        (λ (h : slice_get starts p ≡ Some x). pool.waiting p x h)
        (λ (h : (p ≡ length starts) × (Pool ≡ x)). sym h.1)
        (get_pushed starts Pool x p (ap (λ l. slice_get l p) (sym s) ∙ at));
    new = λ k x at. ⊎_elim
        (λ (h : slice_get cards k ≡ Some x). pool.new k x h)
        (λ (h : (k ≡ length cards) × (c ≡ x)).
        subst (λ (z : Card B L). (z.path ≡ k) × IsNewCard (seen see z)) h.1
        (path ∙ (sym pool.cards_count ∙ sym h.0), new))
        (get_pushed cards c x k (ap (λ l. slice_get l k) (sym m) ∙ at));
  }

  pub pool_whole : (n m : ℕ) (starts : List Start) (cards : List (Card B L)) → IsPool see n starts cards → n ≡ m
      → IsPool see m starts cards
  pool_whole n m starts cards pool e = subst (λ (k : ℕ). IsPool see k starts cards) e pool

module _ {B L : Type 0} where
  -- the one pass
  pub alone : (lock : TableId) (d : BookPlan B L) (made : ℕ) (ws rest : List (SeatView HistoryEntry (BookPlan B L)))
      (s : SeatView HistoryEntry (BookPlan B L)) (more : List (SeatView HistoryEntry (BookPlan B L))) → AreIdle lock d 0 made (ws ++ more)
      → length ws ≡ 1 → ws ≡ rest ++ s ∷ [] → HasNothing lock d 0 made s
  alone lock d made ws rest s more idle one is = go rest is
    where
      go : (rest : List (SeatView HistoryEntry (BookPlan B L))) → ws ≡ rest ++ s ∷ [] → HasNothing lock d 0 made s
      go [] e = (subst (λ l. AreIdle lock d 0 made (l ++ more)) e idle).0
      go (x ∷ xs) e = absurd (omega (arith, one, ap length e, length-append xs (s ∷ [])))

  pub alone_idle : (lock : TableId) (d : BookPlan B L) (made : ℕ) (s : SeatView HistoryEntry (BookPlan B L))
      (all : List (SeatView HistoryEntry (BookPlan B L))) → HasNothing lock d 0 made s → all ≡ s ∷ [] → made ≡ 1
      → AreIdle lock d 0 (length all) all
  alone_idle lock d made s all h e n =
      subst (λ (l : List (SeatView HistoryEntry (BookPlan B L))). AreIdle lock d 0 (length l) l) (sym e)
      (subst (λ (m : ℕ). HasNothing lock d 0 m s) n h, tt)
