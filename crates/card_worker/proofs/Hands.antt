-- What a worker has in hand, step by step.
use Rattle.std.proofs.Common.{◌≡◌, ◌==◌, ◌<◌, ℕ, Bool, true, false, cond, List, [], ◌∷◌, ◌++◌, length, Option, Some, None, refl, sym, ap, ◌∙◌, subst, append_assoc, eq-eqb, ne_eqb}
use Rattle.std.proofs.lemmas.List.{append-nil, length-map}
use mathlib.Core.List.{map-append}
use Rattle.atomic_table.specs.Seated.{TableId}
use Rattle.turn_lock.specs.Seat.{SeatView, mine_of, seen_of, number_of}
use Rattle.object_dir.specs.declared.taken_blob.Taken.{Taken}
use Rattle.delay_table.specs.Table.{contains, AreApart}
use Rattle.convert_plan.specs.declared.card.Card.{Card}
use Rattle.convert_plan.specs.Card.{CardSeen}
use Rattle.checkout_core.specs.declared.event.Event.{Event}
use Rattle.checkout_core.specs.declared.event.Event.TheVariants.{Claim, Close}
use Rattle.checkout_core.specs.declared.path.Path.{Path}
use Rattle.checkout_core.specs.declared.verdict.FilterCause.{FilterCause}
use Rattle.checkout_core.specs.declared.verdict.Own.{Own}
use Rattle.checkout_core.specs.declared.verdict.Verdict.{Verdict}
use Rattle.checkout_core.specs.States.{Core}
use Rattle.checkout_core.specs.Verdicts.{held_close}
use Rattle.checkout_core.specs.Actors.{is_step}
use Rattle.checkout_core.specs.Hands.{held_at, is_held, Holds}
use Rattle.checkout_core.specs.Notes.{noted}
use Rattle.checkout_book.specs.declared.plan.BookPlan.{BookPlan}
use Rattle.checkout_book.specs.declared.plan.HistoryEntry.{HistoryEntry}
use Rattle.checkout_book.specs.Sights.{Sight, seen, tell}
use Rattle.checkout_book.specs.Shelves.{cards_of, IsOut}
use Rattle.checkout_book.specs.Passes.{Claims, Closes, TookNone, TookCard, Keeps, claim_entry, close_entry}
use Rattle.card_worker.specs.declared.hand.Hand.{Hand}
use Rattle.card_worker.specs.declared.held.Held.{Held}
use Rattle.card_worker.specs.declared.written.Written.{Written}
use Rattle.card_worker.specs.Fews.{items}
use Rattle.card_worker.specs.Turns.{TurnSteps}
use Rattle.card_worker.specs.Holding.{HoldsCard, WritesHeld, Shift, paths_in, claims_in, IsHeld, AreHeld, IsHand, IsInHand, SawNone, AreSame, AreSameSlots, IsToBeWritten, IsWrittenSo}
use Rattle.card_worker.specs.Working.{IsReady, Idled, own_events}
use Rattle.card_worker.proofs.SameCards.{same_more, same_items}
use Rattle.card_worker.proofs.TurnSteps.{claims_more, closes_more}
use Rattle.card_worker.proofs.WorkTurns.{begins_trans, noted_more, planned_to_write, held_may_close, out_again, shown, shown_more}

eqb_self : (p : ℕ) → (p == p) ≡ true
eqb_self p = eq-eqb p p refl

abbrev row_held : ℕ → Option Path → Bool
row_held n o = elim o [ None ↦ false | Some r ↦ is_held n r.state ]

held_holds : (c : Core) (n p : ℕ) (raw : Option FilterCause) → Holds c p n raw → held_at c n p ≡ true
held_holds c n p raw h = ap (row_held n) h.1 ∙ (ap (is_held n) h.2 ∙ eqb_self n)

is_true : (b : Bool) → b ≡ true → b ≡ false → ⊥
is_true b t f = cc (t, f)

bool_false : (b : Bool) → (b ≡ true → false ≡ true) → b ≡ false
bool_false true h = sym (h refl)
bool_false false h = refl

among_claimed : (q p : ℕ) (ps : List ℕ) → cond (q == p) true (contains q ps) ≡ true → contains q (ps ++ p ∷ []) ≡ true
among_claimed q p [] h = h
among_claimed q p (r ∷ ps) h = go (q == r) (q == p) (contains q ps) h (among_claimed q p ps)
  where
    go : (a b c : Bool) → cond b true (cond a true c) ≡ true → (cond b true c ≡ true → contains q (ps ++ p ∷ []) ≡ true)
        → cond a true (contains q (ps ++ p ∷ [])) ≡ true
    go true b c h more = refl
    go false b c h more = more h

among_or : (q p : ℕ) (ps : List ℕ) (held : Bool) → (held ≡ true → contains q ps ≡ true)
    → cond (q == p) true held ≡ true → cond (q == p) true (contains q ps) ≡ true
among_or q p ps held h is = go (q == p) is
  where
    go : (b : Bool) → cond b true held ≡ true → cond b true (contains q ps) ≡ true
    go true e = refl
    go false e = h e

among_rest : (q p : ℕ) (ps : List ℕ) (held : Bool) → (held ≡ true → contains q (p ∷ ps) ≡ true)
    → cond (q == p) false held ≡ true → contains q ps ≡ true
among_rest q p ps held h is = go (q == p) is h
  where
    go : (b : Bool) → cond b false held ≡ true → (held ≡ true → cond b true (contains q ps) ≡ true)
        → contains q ps ≡ true
    go true e more = absurd (cc (e))
    go false e more = more e

-- what isn't among these is neither the first of them nor among the others
not_among : (p q : ℕ) (qs : List ℕ) → contains p (q ∷ qs) ≡ false → (q ≡ p → ⊥) × (contains p qs ≡ false)
not_among p q qs none = go (p == q) refl none
  where
    go : (b : Bool) → (p == q) ≡ b → cond b true (contains p qs) ≡ false → (q ≡ p → ⊥) × (contains p qs ≡ false)
    go true e h = absurd (cc h)
    go false e h = (λ is. is_true (p == q) (ap (λ (z : ℕ). p == z) is ∙ eqb_self p) e, h)

not_among_more : (q p : ℕ) (ps : List ℕ) → contains q ps ≡ false → (p ≡ q → ⊥) → contains q (ps ++ p ∷ []) ≡ false
not_among_more q p [] none other =
    ap (λ (b : Bool). cond b true false) (ne_eqb q p (λ e. other (sym e)))
not_among_more q p (r ∷ rs) none other =
    let z = not_among q r rs none in
    ap (λ (b : Bool). cond b true (contains q (rs ++ p ∷ []))) (ne_eqb q r (λ e. z.0 (sym e)))
    ∙ not_among_more q p rs z.1 other

apart_more : (p : ℕ) (ps : List ℕ) → AreApart ps → contains p ps ≡ false → AreApart (ps ++ p ∷ [])
apart_more p [] a none = (refl, tt)
apart_more p (q ∷ qs) a none =
    let z = not_among p q qs none in
    (not_among_more q p qs a.0 (λ e. z.0 (sym e)), apart_more p qs a.1 z.1)

-- a held card is of the path that was claimed
pub held_path : (claimed card : CardSeen) (taken : Option Taken) → HoldsCard claimed card taken
    → card.path ≡ claimed.path
held_path claimed card None h = ap (λ (c : CardSeen). c.path) h
held_path claimed card (Some t) h = ap (λ (c : CardSeen). c.path) h.0

module _ {B L : Type 0} (see : Sight B L) where
  path_of_held : (cards : List (Card B L)) (c : Core) (n : ℕ) (h : Held B L) (i : IsHeld see cards c n h)
      → h.card.path ≡ i.card.path
  path_of_held cards c n h i = held_path (seen see i.card) (seen see h.card) h.taken i.held

  held_here : (cards : List (Card B L)) (c : Core) (n : ℕ) (h : Held B L) → IsHeld see cards c n h
      → held_at c n h.card.path ≡ true
  held_here cards c n h i = ap (held_at c n) (path_of_held cards c n h i)
      ∙ held_holds c n i.card.path i.claimed.raw i.claimed.holds

  -- a card stays held by a step on another path
  held_kept : (cards : List (Card B L)) (c x : Core) (n p : ℕ) (h : Held B L) → Keeps n c x p
      → (h.card.path ≡ p → ⊥) → IsHeld see cards c n h → IsHeld see cards x n h
  held_kept cards c x n p h keeps other i = record {
    card = i.card;
    claimed = record {
      planned = i.claimed.planned;
      raw = i.claimed.raw;
      holds = keeps i.card.path i.claimed.raw (λ e. other (path_of_held cards c n h i ∙ e)) i.claimed.holds;
      ready = i.claimed.ready;
    };
    held = i.held;
  }

  held_same : (cards : List (Card B L)) (c x : Core) (n : ℕ) (hs : List (Held B L))
      → ((q : ℕ) (raw : Option FilterCause) → Holds c q n raw → Holds x q n raw) → AreHeld see cards c n hs
      → AreHeld see cards x n hs
  held_same cards c x n [] keeps a = tt
  held_same cards c x n (h ∷ hs) keeps a = (
    record {
      card = a.0.card;
      claimed = record {
        planned = a.0.claimed.planned;
        raw = a.0.claimed.raw;
        holds = keeps a.0.card.path a.0.claimed.raw a.0.claimed.holds;
        ready = a.0.claimed.ready;
      };
      held = a.0.held;
    },
    held_same cards c x n hs keeps a.1,
  )

  held_rest : (cards : List (Card B L)) (c x : Core) (n p : ℕ) (hs : List (Held B L)) → Keeps n c x p
      → contains p (paths_in hs) ≡ false → AreHeld see cards c n hs → AreHeld see cards x n hs
  held_rest cards c x n p [] keeps none a = tt
  held_rest cards c x n p (h ∷ hs) keeps none a =
      let z = not_among p h.card.path (paths_in hs) none in
      (held_kept cards c x n p h keeps z.0 a.0, held_rest cards c x n p hs keeps z.1 a.1)

  -- a path that the actor hasn't in hand is that of no held card
  none_fresh : (cards : List (Card B L)) (c : Core) (n p : ℕ) (hs : List (Held B L)) → held_at c n p ≡ false
      → AreHeld see cards c n hs → contains p (paths_in hs) ≡ false
  none_fresh cards c n p [] fresh a = refl
  none_fresh cards c n p (h ∷ hs) fresh a =
      ap (λ (b : Bool). cond b true (contains p (paths_in hs))) (ne_eqb p h.card.path
      (λ e. is_true (held_at c n h.card.path) (held_here cards c n h a.0) (ap (held_at c n) (sym e) ∙ fresh)))
      ∙ none_fresh cards c n p hs fresh a.1

  held_more : (cards : List (Card B L)) (x : Core) (n : ℕ) (hs : List (Held B L)) (h : Held B L)
      → AreHeld see cards x n hs → IsHeld see cards x n h → AreHeld see cards x n (hs ++ h ∷ [])
  held_more cards x n [] h a new = (new, tt)
  held_more cards x n (g ∷ gs) h a new = (a.0, held_more cards x n gs h a.1 new)

  -- a hand with one card more
  pub hand_claims : (lock : TableId) (w : Shift B L) (s t : SeatView HistoryEntry (BookPlan B L)) (x : Core)
      (hs : List (Held B L)) (h : Held B L) (k : Card B L) (i : IsHand see lock w s hs) → length hs < 64
      → TookCard see lock w.plan (number_of s) w.made s t i.core x k
      → HoldsCard (seen see k) (seen see h.card) h.taken → IsHand see lock w t (hs ++ h ∷ [])
  hand_claims lock w s t x hs h k i few took0 holds =
      let n = w.number in
      let took = subst (λ (j : ℕ). TookCard see lock w.plan j w.made s t i.core x k) i.is_pass.seat.named took0 in
      let is : h.card.path ≡ k.path = held_path (seen see k) (seen see h.card) h.taken holds in
      let one : List HistoryEntry = claim_entry k.path n ∷ [] in
      let same = ap (λ (p : ℕ). claims_in n hs ++ Claim p n ∷ []) (sym is)
      ∙ sym (map-append (λ (g : Held B L). Claim g.card.path n) hs (h ∷ [])) in
      let paths = ap (λ (p : ℕ). paths_in hs ++ p ∷ []) (sym is)
      ∙ sym (map-append (λ (g : Held B L). g.card.path) hs (h ∷ [])) in
      let none = none_fresh (cards_of w.plan) i.core n k.path hs took.fresh i.held in
      record {
        new = i.new;
        core = x;
        is_pass = took.turn.pass;
        none_other = λ q held.
            subst (λ (l : List ℕ). contains q l ≡ true) paths
            (among_claimed q k.path (paths_in hs)
            (among_or q k.path (paths_in hs) (held_at i.core n q) (i.none_other q) (sym (took.hands q) ∙ held)));
        apart = subst (λ (l : List ℕ). AreApart l) paths (apart_more k.path (paths_in hs) i.apart none);
        held = held_more (cards_of w.plan) x n hs h
            (held_rest (cards_of w.plan) i.core x n k.path hs took.keeps none i.held) record {
              card = k;
              claimed = record { planned = took.planned; raw = took.raw; holds = took.holds; ready = took.ready };
              held = holds;
            };
        more = i.more ++ one;
        mine = took.mine ∙ (ap (λ l. l ++ one) i.mine ∙ append_assoc (mine_of w.pass) i.more one);
        turns = subst (TurnSteps [] (own_events (i.more ++ one))) same
            (subst (λ (l : List Event). TurnSteps [] l (claims_in n hs ++ Claim k.path n ∷ []))
            (sym (map-append (λ (e : HistoryEntry). e.event) i.more one))
            (claims_more (own_events i.more) (claims_in n hs) k.path n i.turns
            (subst (λ (z : ℕ). z < 64) (sym (length-map hs (λ (g : Held B L). Claim g.card.path n))) few)));
        shown = shown_more see (cards_of w.plan) i.more one i.shown (tt, tt);
        quiet = ap noted (map-append (λ (e : HistoryEntry). e.event) i.more one)
            ∙ noted_more (own_events i.more) (own_events one) refl i.quiet;
        begins = begins_trans (seen_of w.pass) (seen_of s) (seen_of t) i.begins took.turn.seen;
      }

  pub took_none : (lock : TableId) (w : Shift B L) (s t : SeatView HistoryEntry (BookPlan B L)) (c : Core)
      (o : Option (Card B L)) → Claims see lock w.plan (number_of s) w.made s t c o
      → ((k : Card B L) → o ≡ Some k → ⊥) → (x : Core) × TookNone lock w.plan (number_of s) w.made s t c x
  took_none lock w s t c None h other = h
  took_none lock w s t c (Some k) h other = absurd (other k refl)

  -- a hand after a claim that gave none
  pub hand_stays : (lock : TableId) (w : Shift B L) (s t : SeatView HistoryEntry (BookPlan B L)) (x : Core)
      (hs : List (Held B L)) (i : IsHand see lock w s hs)
      → TookNone lock w.plan (number_of s) w.made s t i.core x
      → IsHand see lock w t hs × SawNone lock w t
  hand_stays lock w s t x hs i took0 =
      let took = subst (λ (j : ℕ). TookNone lock w.plan j w.made s t i.core x) i.is_pass.seat.named took0 in (
        record {
          new = i.new;
          core = x;
          is_pass = took.turn.pass;
          none_other = λ q held. i.none_other q (sym (took.hands q) ∙ held);
          apart = i.apart;
          held = held_same (cards_of w.plan) i.core x w.number hs took.keeps i.held;
          more = i.more;
          mine = took.mine ∙ i.mine;
          turns = i.turns;
          shown = i.shown;
          quiet = i.quiet;
          begins = begins_trans (seen_of w.pass) (seen_of s) (seen_of t) i.begins took.turn.seen;
        },
        (x, took.turn.pass, took.none),
      )

  -- how the first card in hand was written
  pub written_so : (lock : TableId) (w : Shift B L) (s : SeatView HistoryEntry (BookPlan B L)) (h : Held B L)
      (hs : List (Held B L)) (x : Written B L) (i : IsHand see lock w s (h ∷ hs)) → IsWrittenSo see h x
      → WritesHeld (seen see i.held.0.card) (seen see x.card) x.own
  written_so lock w s h hs x i wrote =
      let a = i.held.0 in
      wrote a.card (planned_to_write see (cards_of w.plan) a.card a.claimed.raw i.new a.claimed.planned a.claimed.ready)
      a.held

  pub to_be_written : (lock : TableId) (w : Shift B L) (s : SeatView HistoryEntry (BookPlan B L)) (h : Held B L)
      (hs : List (Held B L)) → IsHand see lock w s (h ∷ hs) → IsToBeWritten see h
  to_be_written lock w s h hs i =
      let a = i.held.0 in (
        a.card,
        planned_to_write see (cards_of w.plan) a.card a.claimed.raw i.new a.claimed.planned a.claimed.ready,
        a.held,
      )

  -- it may be closed
  pub hand_may_close : ((c : Core) (p a : ℕ) (raw : Option FilterCause) (o : Own) (v : Verdict) → Holds c p a raw
      → held_close raw o ≡ Some v → is_step c (Close p a o) ≡ true)
      → (lock : TableId) (w : Shift B L) (s : SeatView HistoryEntry (BookPlan B L)) (h : Held B L)
      (hs : List (Held B L)) (x : Written B L) (i : IsHand see lock w s (h ∷ hs)) → IsWrittenSo see h x
      → (is_step i.core (Close x.card.path (number_of s) x.own) ≡ true) × IsOut see (cards_of w.plan) x.card
  hand_may_close law lock w s h hs x i wrote =
      let a = i.held.0 in
      let z = written_so lock w s h hs x i wrote in (
        subst (λ (j : ℕ). is_step i.core (Close x.card.path j x.own) ≡ true) (sym i.is_pass.seat.named)
            (held_may_close see law i.core a.card x.card a.claimed.raw w.number x.own a.claimed.holds a.claimed.ready
            z.kept z.read),
        out_again see (cards_of w.plan) a.card x.card a.claimed.planned z.kept,
      )

  pub hand_closes : (lock : TableId) (w : Shift B L) (s t : SeatView HistoryEntry (BookPlan B L)) (h : Held B L)
      (hs : List (Held B L)) (x : Written B L) (i : IsHand see lock w s (h ∷ hs)) → IsWrittenSo see h x
      → Closes lock w.plan (number_of s) w.made s t i.core x.card.path x.own (tell see x.card.blob x.card.leaf)
      → IsHand see lock w t hs
  hand_closes lock w s t h hs x i wrote closes0 =
      let n = w.number in
      let a = i.held.0 in
      let z = written_so lock w s h hs x i wrote in
      let parts = tell see x.card.blob x.card.leaf in
      let closes = subst (λ (j : ℕ). Closes lock w.plan j w.made s t i.core x.card.path x.own parts)
      i.is_pass.seat.named closes0 in
      let is : x.card.path ≡ h.card.path = ap (λ (y : CardSeen). y.path) z.kept
      ∙ sym (path_of_held (cards_of w.plan) i.core n h a) in
      let one : List HistoryEntry = close_entry x.card.path n x.own parts ∷ [] in
      record {
        new = i.new;
        core = closes.core;
        is_pass = closes.turn.pass;
        none_other = λ q held.
            among_rest q h.card.path (paths_in hs) (held_at i.core n q) (i.none_other q)
            (ap (λ (p : ℕ). cond (q == p) false (held_at i.core n q)) (sym is) ∙ (sym (closes.hands q) ∙ held));
        apart = i.apart.1;
        held = held_rest (cards_of w.plan) i.core closes.core n x.card.path hs closes.keeps
            (subst (λ (p : ℕ). contains p (paths_in hs) ≡ false) (sym is) i.apart.0) i.held.1;
        more = i.more ++ one;
        mine = closes.mine ∙ (ap (λ l. l ++ one) i.mine ∙ append_assoc (mine_of w.pass) i.more one);
        turns = subst (λ (l : List Event). TurnSteps [] l (claims_in n hs))
            (sym (map-append (λ (e : HistoryEntry). e.event) i.more one))
            (closes_more (own_events i.more) (claims_in n hs) x.card.path n x.own
            (subst (λ (p : ℕ). TurnSteps [] (own_events i.more) (Claim p n ∷ claims_in n hs)) (sym is) i.turns));
        shown = shown_more see (cards_of w.plan) i.more one i.shown
            (shown see (cards_of w.plan) a.card x.card n x.own a.claimed.planned z.kept z.wrote, tt);
        quiet = ap noted (map-append (λ (e : HistoryEntry). e.event) i.more one)
            ∙ noted_more (own_events i.more) (own_events one) refl i.quiet;
        begins = begins_trans (seen_of w.pass) (seen_of s) (seen_of t) i.begins closes.turn.seen;
      }

  -- a worker begins with nothing in hand
  pub hand_begins : (lock : TableId) (d : BookPlan B L) (n made : ℕ) (s : SeatView HistoryEntry (BookPlan B L))
      → IsReady see lock d n made s
      → IsHand see lock (record { plan = d; number = n; made = made; pass = s }) s []
  hand_begins lock d n made s ready = record {
    new = ready.1;
    core = ready.0.0;
    is_pass = ready.0.1;
    none_other = λ q held. absurd (is_true (held_at ready.0.0 n q) held (ready.0.2 q));
    apart = tt;
    held = tt;
    more = [];
    mine = sym (append-nil (mine_of s));
    turns = refl;
    shown = tt;
    quiet = refl;
    begins = ([], append-nil (seen_of s));
  }

  -- with nothing in hand it is through with its turns
  pub hand_ends : (lock : TableId) (w : Shift B L) (s : SeatView HistoryEntry (BookPlan B L)) → IsHand see lock w s []
      → SawNone lock w s → Idled see lock w.plan w.number w.made w.pass s
  hand_ends lock w s i last = record {
    worked = record {
      nothing = (i.core, i.is_pass, λ q. bool_false (held_at i.core w.number q) (i.none_other q));
      more = i.more;
      mine = i.mine;
      turns = i.turns;
      shown = i.shown;
      quiet = i.quiet;
      seen = i.begins;
    };
    last = last;
  }

  -- ---- the same cards

  same_paths : (hs ks : List (Held B L)) → AreSame see hs ks → paths_in ks ≡ paths_in hs
  same_paths [] [] a = refl
  same_paths (h ∷ hs) (k ∷ ks) a = ap (λ (p : ℕ). p ∷ paths_in ks) a.0.0
      ∙ ap (λ (l : List ℕ). h.card.path ∷ l) (same_paths hs ks a.1)
  same_paths [] (k ∷ ks) a = absurd a
  same_paths (h ∷ hs) [] a = absurd a

  same_claims : (n : ℕ) (hs ks : List (Held B L)) → AreSame see hs ks → claims_in n ks ≡ claims_in n hs
  same_claims n [] [] a = refl
  same_claims n (h ∷ hs) (k ∷ ks) a = ap (λ (p : ℕ). Claim p n ∷ claims_in n ks) a.0.0
      ∙ ap (λ (l : List Event). Claim h.card.path n ∷ l) (same_claims n hs ks a.1)
  same_claims n [] (k ∷ ks) a = absurd a
  same_claims n (h ∷ hs) [] a = absurd a

  same_held : (cards : List (Card B L)) (c : Core) (n : ℕ) (hs ks : List (Held B L)) → AreSame see hs ks
      → AreHeld see cards c n hs → AreHeld see cards c n ks
  same_held cards c n [] [] a held = tt
  same_held cards c n (h ∷ hs) (k ∷ ks) a held = (
    record {
      card = held.0.card;
      claimed = held.0.claimed;
      held = a.0.1 (seen see held.0.card) held.0.held;
    },
    same_held cards c n hs ks a.1 held.1,
  )
  same_held cards c n [] (k ∷ ks) a held = absurd a
  same_held cards c n (h ∷ hs) [] a held = absurd a

  pub hand_same : (lock : TableId) (w : Shift B L) (s : SeatView HistoryEntry (BookPlan B L)) (hs ks : List (Held B L))
      → AreSame see hs ks → IsHand see lock w s hs → IsHand see lock w s ks
  hand_same lock w s hs ks a i = record {
    new = i.new;
    core = i.core;
    is_pass = i.is_pass;
    none_other = λ q held.
        subst (λ (l : List ℕ). contains q l ≡ true) (sym (same_paths hs ks a)) (i.none_other q held);
    apart = subst (λ (l : List ℕ). AreApart l) (sym (same_paths hs ks a)) i.apart;
    held = same_held (cards_of w.plan) i.core w.number hs ks a i.held;
    more = i.more;
    mine = i.mine;
    turns = subst (TurnSteps [] (own_events i.more)) (sym (same_claims w.number hs ks a)) i.turns;
    shown = i.shown;
    quiet = i.quiet;
    begins = i.begins;
  }

  -- a hand of which the SHA-1 were found, or whose next objects were read
  pub hand_found : (lock : TableId) (w : Shift B L) (x y : Hand B L) → y.pass ≡ x.pass
      → AreSameSlots see x.cards.slots.items y.cards.slots.items → AreSameSlots see x.next.slots.items y.next.slots.items
      → IsInHand see lock w x → IsInHand see lock w y
  hand_found lock w x y pass same next i =
      subst (λ (s : SeatView HistoryEntry (BookPlan B L)). IsHand see lock w s (items y.cards ++ items y.next)) (sym pass)
      (hand_same lock w x.pass (items x.cards ++ items x.next) (items y.cards ++ items y.next)
      (same_more see (items x.cards) (items y.cards) (items x.next) (items y.next)
      (same_items see x.cards.slots.items y.cards.slots.items same)
      (same_items see x.next.slots.items y.next.slots.items next)) i)

  -- a hand that goes on to the cards after those that were closed
  pub hand_goes_on : (lock : TableId) (w : Shift B L) (x y : Hand B L) → y.pass ≡ x.pass → items x.cards ≡ []
      → items y.cards ≡ items x.next → items y.next ≡ [] → IsInHand see lock w x → IsInHand see lock w y
  hand_goes_on lock w x y pass none cards next i =
      subst (λ (s : SeatView HistoryEntry (BookPlan B L)). IsHand see lock w s (items y.cards ++ items y.next)) (sym pass)
      (subst (IsHand see lock w x.pass)
      (ap (λ (l : List (Held B L)). l ++ items x.next) none
      ∙ (sym (append-nil (items x.next)) ∙ (ap (λ (l : List (Held B L)). l ++ []) (sym cards)
      ∙ ap (λ (l : List (Held B L)). items y.cards ++ l) (sym next))))
      i)

  -- an empty hand at the end
  pub hand_idle : (lock : TableId) (w : Shift B L) (x : Hand B L) → IsInHand see lock w x → items x.cards ≡ []
      → items x.next ≡ [] → SawNone lock w x.pass → Idled see lock w.plan w.number w.made w.pass x.pass
  hand_idle lock w x i none no_next last =
      hand_ends lock w x.pass
      (subst (λ (l : List (Held B L)). IsHand see lock w x.pass l)
      (ap (λ (l : List (Held B L)). l ++ items x.next) none ∙ no_next) i) last
