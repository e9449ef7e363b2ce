-- A book with a path for any actor, and a path of a driver that can't be started.
use Rattle.std.proofs.Common.{◌≡◌, ℕ, zero, suc, true, false, List, [], ◌∷◌, ◌++◌, length}
use Rattle.std.proofs.Common.{◌+◌, ◌<◌, length-append, map, Some, None, refl, sym, ap, ◌∙◌, subst, arith}
use Rattle.std.proofs.lemmas.List.{append-nil}
use Rattle.std.specs.Prelude.{slice_get}
use Rattle.std.specs.Global.{Vec}
use Rattle.atomic_table.specs.Seated.{TableId}
use Rattle.turn_lock.specs.History.{own}
use Rattle.turn_lock.specs.Seat.{SeatView, number_of, seen_of, mine_of}
use Rattle.convert_plan.specs.declared.card.Card.{Card}
use Rattle.convert_plan.specs.Card.{CardSeen, IsNewCard, IsRefusedCard}
use Rattle.checkout_core.specs.declared.verdict.FilterCause.TheVariants as cause
use Rattle.checkout_core.specs.declared.event.Event.{Event}
use Rattle.checkout_core.specs.declared.event.Event.TheVariants.{OpenFailed, HandBack}
use Rattle.checkout_core.specs.declared.event.OpenCause.TheVariants.{NotStarted}
use Rattle.checkout_core.specs.declared.path.Heard.TheVariants.{Refused}
use Rattle.checkout_core.specs.declared.path.PathState.TheVariants.{Waiting, Heard}
use Rattle.checkout_core.specs.declared.path.Start.{Start}
use Rattle.checkout_core.specs.declared.path.Start.TheVariants.{Pool, Desk}
use Rattle.checkout_core.specs.declared.driver.DriverState.TheVariants.{Off}
use Rattle.checkout_core.specs.States.{Core, AreBelow, start}
use Rattle.checkout_core.specs.Steps.{IsLegal, replay}
use Rattle.checkout_core.specs.Actors.{actor_of, is_claim, is_step, own_entries}
use Rattle.checkout_core.specs.Hands.{held_at}
use Rattle.checkout_core.specs.Desks.{MayNext}
use Rattle.checkout_book.specs.declared.plan.BookPlan.{BookPlan}
use Rattle.checkout_book.specs.declared.plan.HistoryEntry.{HistoryEntry}
use Rattle.checkout_book.specs.Sights.{Sight, seen}
use Rattle.checkout_book.specs.Entries.{events_of}
use Rattle.checkout_book.specs.Shape.{Shelf}
use Rattle.checkout_book.specs.Shelves.{joined, cards_of}
use Rattle.checkout_book.specs.Ending.{GoesOn}
use Rattle.checkout_book.specs.Passes.{IsPass, Appends, note_entry}
use Rattle.checkout_book.specs.Reserving.{ArePool, AreDealt, AreNew, AreIdle, AreFresh, HasNothing}
use Rattle.checkout_book.specs.Reserving.{IsFinished}
use Rattle.bench_books.proofs.Working.{by_number, note_named}
use Rattle.bench_books.specs.Pairs.{two, IsFirst, IsPair, IsBegun}

-- the law of core_laws on what may follow an actor's own entries
abbrev pub MayFollow : Type 0
MayFollow = (starts : List Start) (workers drivers a : ℕ) (history : List Event) (x : Core) (e : Event)
    → IsLegal starts workers drivers history x → actor_of starts workers e ≡ Some a
    → MayNext starts workers drivers (own_entries starts workers a history) e → is_claim e ≡ false
    → is_step x e ≡ true

-- the law of checkout_book on a pass's own list
abbrev pub ListsOwn : (B L : Type 0) → Type 0
ListsOwn B L = (lock : TableId) (d : BookPlan B L) (n made : ℕ) (pass : SeatView HistoryEntry (BookPlan B L)) (c : Core)
    → IsPass lock d n made pass c
    → own_entries d.starts.items d.workers n (events_of (seen_of pass)) ≡ map (λ e. e.event) (mine_of pass)

abbrev pub not_started : Event
not_started = OpenFailed 1 NotStarted

-- the core after it
abbrev refused : Core
refused = record {
  workers = 1;
  drivers = Off ∷ [];
  paths = record { start = Pool; state = Waiting None }
      ∷ record { start = Desk 0 false; state = Heard (Refused cause.NotStarted) } ∷ [];
}

pub below_two : AreBelow 1 two
below_two zero d required at = absurd (cc (at))
below_two (suc zero) d required at = let e : 0 ≡ d = cc (at) in omega (arith, e)
below_two (suc (suc p)) d required at = absurd (cc (at))

may_after : MayNext two 1 1 (not_started ∷ []) (HandBack 1)
may_after = (refused, refl, refl, (refl, tt), below_two)

module _ {B L : Type 0} (lock : TableId) (d : BookPlan B L) (made : ℕ) (s : SeatView HistoryEntry (BookPlan B L))
    (f : IsFirst lock d made s) where
  pub by_desk : (e : Event) → actor_of two 1 e ≡ Some 1 → actor_of d.starts.items d.workers e ≡ Some 1
  by_desk e h = let same : actor_of d.starts.items d.workers e ≡ actor_of two 1 e = λ i. actor_of (f.starts i)
      (f.workers i) e in same ∙ h

  -- what the desk's first note does, by its number
  pub first_note : (new : SeatView HistoryEntry (BookPlan B L)) (c : Core) (pass : IsPass lock d 1 made s c)
      → ((x : Core) → IsPass lock d (number_of s) made s x
      → actor_of d.starts.items d.workers not_started ≡ Some (number_of s)
      → Appends lock d (number_of s) made s new x not_started)
      → Appends lock d 1 made s new c not_started
  first_note new c pass post =
      note_named lock d 1 made s new c not_started pass.seat.named (post c (by_number lock d 1 made s c pass)
      (by_desk not_started refl ∙ ap (λ (k : ℕ). Some k) (sym pass.seat.named)))

  -- whoever hands path 1 back is the desk
  pub back_by : (p n : ℕ) → p ≡ 1 → n ≡ 1 → actor_of d.starts.items d.workers (HandBack p) ≡ Some n
  back_by p n is named =
      subst (λ (q : ℕ). actor_of d.starts.items d.workers (HandBack q) ≡ Some 1) (sym is) (by_desk (HandBack 1) refl)
      ∙ ap (λ (k : ℕ). Some k) (sym named)

  first_core : (c : Core) → IsPass lock d 1 made s c → start two 1 1 ≡ c
  first_core c pass =
      let same : replay (start d.starts.items d.workers d.drivers) (events_of (seen_of s))
      ≡ replay (start two 1 1) [] = λ i. replay (start (f.starts i) (f.workers i) (f.drivers i))
      (events_of (f.fresh i)) in
      let is : Some (start two 1 1) ≡ Some c = sym same ∙ pass.reads.run in
      cc (is)

  -- the driver's first start may fail
  pub may_fail : (c : Core) → IsPass lock d 1 made s c → is_step c not_started ≡ true
  may_fail c pass = subst (λ (x : Core). is_step x not_started ≡ true) (first_core c pass) refl

  -- and then the path may be handed back
  pub may_hand_back : MayFollow → ListsOwn B L → (new : SeatView HistoryEntry (BookPlan B L)) (c : Core)
      (t : Appends lock d 1 made s new c not_started)
      → IsPass lock d 1 made s c → (p : ℕ) → p ≡ 1 → is_step t.core (HandBack p) ≡ true
  may_hand_back law lists new c t pass p is =
      let now = t.turn.pass in
      let none : mine_of s ≡ [] = pass.seat.receipts ∙ ap (own 1) f.fresh in
      let mine : mine_of new ≡ note_entry not_started ∷ [] = t.mine ∙ ap (λ l. l ++ note_entry not_started ∷ []) none in
      let given : own_entries d.starts.items d.workers 1 (events_of (seen_of new)) ≡ not_started ∷ [] =
      lists lock d 1 made new t.core now ∙ ap (map (λ e. e.event)) mine in
      let next : MayNext d.starts.items d.workers d.drivers
      (own_entries d.starts.items d.workers 1 (events_of (seen_of new))) (HandBack 1) =
      subst (λ (l : List Event). MayNext d.starts.items d.workers d.drivers l (HandBack 1)) (sym given)
      (subst (λ (ss : List Start). MayNext ss d.workers d.drivers (not_started ∷ []) (HandBack 1)) (sym f.starts)
      (subst (λ (w : ℕ). MayNext two w d.drivers (not_started ∷ []) (HandBack 1)) (sym f.workers)
      (subst (λ (r : ℕ). MayNext two 1 r (not_started ∷ []) (HandBack 1)) (sym f.drivers) may_after))) in
      subst (λ (q : ℕ). is_step t.core (HandBack q) ≡ true) (sym is)
      (law d.starts.items d.workers d.drivers 1 (events_of (seen_of new)) t.core (HandBack 1) now.reads.run
      (by_desk (HandBack 1) refl) next refl)

  pub nothing_after : (new last : SeatView HistoryEntry (BookPlan B L)) (c : Core) (t : Appends lock d 1 made s new c not_started)
      (p : ℕ) → Appends lock d 1 made new last t.core (HandBack p) → ((q : ℕ) → held_at c 1 q ≡ false)
      → HasNothing lock d 1 made last
  nothing_after new last c t p u none = (u.core, u.turn.pass, λ q. u.hands q ∙ (t.hands q ∙ none q))

only : {A : Type 0} (xs rest : List A) (x : A) → length xs ≡ 1 → xs ≡ rest ++ x ∷ [] → xs ≡ x ∷ []
only xs [] x n e = e
only xs (y ∷ ys) x n e = absurd (omega (arith, n, ap length e, length-append ys (x ∷ [])))

map_length : {A C : Type 0} (f : A → C) (xs : List A) → length (map f xs) ≡ length xs
map_length f [] = refl
map_length f (x ∷ xs) = ap suc (map_length f xs)

module _ {B L : Type 0} (see : Sight B L) where
  pub pair_below : (d : BookPlan B L) (a b : Card B L) → IsPair see d a b → AreBelow (length d.desks.items) d.starts.items
  pair_below d a b is = subst (λ (n : ℕ). AreBelow n d.starts.items) (sym is.count)
      (subst (AreBelow 1) (sym is.starts) below_two)

  two_pool : (a : Card B L) → a.path ≡ 0 → ArePool two (a ∷ [])
  two_pool a is = record { there = there; all = all; rises = rises }
    where
      there : (k : ℕ) (c : Card B L) → slice_get (a ∷ []) k ≡ Some c → slice_get two c.path ≡ Some Pool
      there zero c at = let e : a ≡ c = cc (at) in
          ap (slice_get two) (ap (λ (z : Card B L). z.path) (sym e) ∙ is)
      there (suc k) c at = absurd (cc (at))

      all : (p : ℕ) → slice_get two p ≡ Some Pool
          → (k : ℕ) × (c : Card B L) × (slice_get (a ∷ []) k ≡ Some c) × (c.path ≡ p)
      all zero at = (zero, a, refl, is)
      all (suc zero) at = absurd (cc (at))
      all (suc (suc p)) at = absurd (cc (at))

      rises : (i j : ℕ) (x y : Card B L) → i < j → slice_get (a ∷ []) i ≡ Some x → slice_get (a ∷ []) j ≡ Some y
          → x.path < y.path
      rises i zero x y lt at later = absurd (omega (arith, lt))
      rises i (suc j) x y lt at later = absurd (cc (later))

  pub pair_pool : (d : BookPlan B L) (a b : Card B L) → IsPair see d a b → ArePool d.starts.items d.pool.items
  pair_pool d a b is = subst (λ (ss : List Start). ArePool ss d.pool.items) (sym is.starts)
      (subst (λ (cs : List (Card B L)). ArePool two cs) (sym is.pool) (two_pool a is.free_path))

  pub two_cards : (d : BookPlan B L) (a b : Card B L) → IsPair see d a b → cards_of d ≡ a ∷ b ∷ []
  two_cards d a b is = λ i. is.pool i ++ is.desks i

  two_new : (a b : Card B L) → IsNewCard (seen see a) → IsNewCard (seen see b) → AreNew see (a ∷ b ∷ [])
  two_new a b m n zero c at = let e : a ≡ c = cc (at) in subst (λ (z : Card B L). IsNewCard (seen see z)) e m
  two_new a b m n (suc zero) c at = let e : b ≡ c = cc (at) in subst (λ (z : Card B L). IsNewCard (seen see z)) e n
  two_new a b m n (suc (suc k)) c at = absurd (cc (at))

  pub pair_new : (d : BookPlan B L) (a b : Card B L) → IsPair see d a b → AreNew see (cards_of d)
  pair_new d a b is = subst (AreNew see) (sym (two_cards d a b is)) (two_new a b is.free_new is.filtered_new)

  -- the card that the desk has is the second
  dealt : (vs : List (Vec (Card B L))) (b : Card B L) → length vs ≡ 1 → joined vs ≡ b ∷ [] → b.path ≡ 1
      → AreDealt two 0 vs
  dealt [] b n j p = absurd (omega (arith, n))
  dealt (v ∷ []) b n j p =
      let one : v.items ≡ b ∷ [] = sym (append-nil v.items) ∙ j in
      (ap (map (λ (c : Card B L). c.path)) one ∙ ap (λ (q : ℕ). q ∷ []) p, tt)
  dealt (v ∷ w ∷ vs) b n j p = absurd (omega (arith, n))

  pub pair_dealt : (d : BookPlan B L) (a b : Card B L) → IsPair see d a b → AreDealt d.starts.items 0 d.desks.items
  pair_dealt d a b is = subst (λ (ss : List Start). AreDealt ss 0 d.desks.items) (sym is.starts)
      (dealt d.desks.items b is.count is.desks is.filtered_path)

  pub one_desk : (vs : List (Vec (Card B L))) (v : Vec (Card B L)) (b : Card B L) → vs ≡ v ∷ [] → joined vs ≡ b ∷ []
      → v.items ++ [] ≡ b ∷ []
  one_desk vs v b e j = ap joined (sym e) ∙ j

-- a list with one element has no other last element
pub last_card : {A : Type 0} (cs rest : List A) (b x : A) → cs ++ [] ≡ b ∷ [] → cs ≡ rest ++ x ∷ [] → x ≡ b
last_card cs rest b x one e =
    let whole : cs ≡ b ∷ [] = sym (append-nil cs) ∙ one in
    let alone : cs ≡ x ∷ [] = only cs rest x (ap length whole) e in
    let same : x ∷ [] ≡ b ∷ [] = sym alone ∙ whole in
    cc (same)

module _ {B L : Type 0} (see : Sight B L) (lock : TableId) (d : BookPlan B L) (made : ℕ) (a b : Card B L)
    (is : IsPair see d a b) (ws : List (SeatView HistoryEntry (BookPlan B L)))
    (ds : List (SeatView HistoryEntry (BookPlan B L) × Vec (Card B L))) (count : length ws ≡ 1)
    (idle : AreIdle lock d 0 made (ws ++ map (λ x. x.0) ds)) (fresh : AreFresh (ws ++ map (λ x. x.0) ds))
    (decks : map (λ x. x.1) ds ≡ d.desks.items) (two_made : made ≡ 2) where
  pub desk_count : length ds ≡ 1
  desk_count = sym (map_length (λ (x : SeatView HistoryEntry (BookPlan B L) × Vec (Card B L)). x.1) ds)
      ∙ (ap length decks ∙ is.count)

  -- the passes and the card that a book of a pair gives
  pub begun : (rest : List (SeatView HistoryEntry (BookPlan B L))) (w : SeatView HistoryEntry (BookPlan B L))
      (left : List (SeatView HistoryEntry (BookPlan B L) × Vec (Card B L))) (p : SeatView HistoryEntry (BookPlan B L)) (cs : Vec (Card B L))
      (more : List (Card B L)) (card : Card B L) → ws ≡ rest ++ w ∷ [] → ds ≡ left ++ (p, cs) ∷ []
      → cs.items ≡ more ++ card ∷ [] → IsBegun see lock d w p card
  begun rest w left p cs more card ew ed ec =
      let one : ws ≡ w ∷ [] = only ws rest w count ew in
      let dk : ds ≡ (p, cs) ∷ [] = only ds left (p, cs) desk_count ed in
      let both : ws ++ map (λ x. x.0) ds ≡ w ∷ p ∷ [] = λ i. one i ++ map (λ x. x.0) (dk i) in
      let ok = subst (AreIdle lock d 0 made) both idle in
      let new = subst (λ (l : List (SeatView HistoryEntry (BookPlan B L))). AreFresh l) both fresh in
      let same : card ≡ b = last_card cs.items more b card
      (one_desk see d.desks.items cs b (sym decks ∙ ap (map (λ x. x.1)) dk) is.desks) ec in
      record {
        idle = subst (λ (m : ℕ). HasNothing lock d 0 m w) two_made ok.0;
        first = record {
          starts = is.starts;
          workers = is.workers;
          drivers = is.drivers;
          idle = ok.1.0;
          fresh = new.2.1;
        };
        planned = ap (λ (l : List (Card B L)). slice_get l 1) (two_cards see d a b is) ∙ ap (λ z. Some z) (sym same);
        path = ap (λ (z : Card B L). z.path) same ∙ is.filtered_path;
        new = subst (λ (z : Card B L). IsNewCard (seen see z)) (sym same) is.filtered_new;
      }

-- two passes that have nothing in hand, in order
module _ {B L : Type 0} where
  pub both_idle : (lock : TableId) (d : BookPlan B L) (made : ℕ) (w p : SeatView HistoryEntry (BookPlan B L))
      (all : List (SeatView HistoryEntry (BookPlan B L))) → HasNothing lock d 0 made w → HasNothing lock d 1 0 p
      → all ≡ w ∷ p ∷ [] → made ≡ 2 → AreIdle lock d 0 (length all) all
  both_idle lock d made w p all hw hp e n =
      subst (λ (l : List (SeatView HistoryEntry (BookPlan B L))). AreIdle lock d 0 (length l) l) (sym e)
      (subst (λ (m : ℕ). HasNothing lock d 0 m w) n hw, (hp, tt))

  -- what a book of two actors leaves goes on
  pub goes_on : (see : Sight B L) (d : BookPlan B L) (ss : List (SeatView HistoryEntry (BookPlan B L))) (s : Shelf B L)
      → IsFinished see d ss s → d.workers + d.drivers ≡ 2 → GoesOn see s
  goes_on see d ss s is count =
      let workers : s.workers ≡ d.workers = ap (λ (x : BookPlan B L). x.workers) is.plan in
      let drivers : s.drivers ≡ d.drivers = ap (λ (x : BookPlan B L). x.drivers) is.plan in
      record { sound = is.sound; room = is.room; some = omega (arith, count, workers, drivers) }

-- the path of a refused card is that of the planned one
pub refused_path : (planned card : CardSeen) → IsRefusedCard planned card → card.path ≡ planned.path
refused_path planned card r = ap (λ (z : CardSeen). z.path) r.same
