-- The cards of a book as it begins and ends.
use Rattle.std.specs.Prelude.{◌≡◌, ℕ, zero, suc, ◌≤◌, ◌<◌, ◌+◌, ◌^◌, false, List, [], ◌∷◌, length, map, Some}
use Rattle.std.specs.Prelude.{slice_get, slice_set}
use Rattle.std.specs.Global.{Vec}
use Rattle.atomic_table.specs.Seated.{TableId}
use Rattle.turn_lock.specs.History.{own, Begins}
use Rattle.turn_lock.specs.Seat.{SeatView, mine_of, seen_of}
use Rattle.convert_plan.specs.declared.card.Card.{Card}
use Rattle.convert_plan.specs.Card.{IsNewCard}
use Rattle.checkout_core.specs.declared.path.Start.{Start}
use Rattle.checkout_core.specs.declared.path.Start.TheVariants.{Pool}
use Rattle.checkout_core.specs.States.{Core, AreBelow}
use Rattle.checkout_core.specs.Desks.{paths_of}
use Rattle.checkout_core.specs.Hands.{held_at}
use Rattle.checkout_book.specs.declared.plan.BookPlan.{BookPlan}
use Rattle.checkout_book.specs.declared.plan.HistoryEntry.{HistoryEntry}
use Rattle.checkout_book.specs.declared.shelf.Slot.{Slot}
use Rattle.checkout_book.specs.declared.shelf.Slot.TheVariants.{Away, Waits}
use Rattle.checkout_book.specs.Shape.{Shelf}
use Rattle.checkout_book.specs.Sights.{Sight, seen, tell}
use Rattle.checkout_book.specs.Entries.{history_of}
use Rattle.checkout_book.specs.Shelves.{plan_of, cards_of, IsSound, HasRoom}
use Rattle.checkout_book.specs.Passes.{IsPass}

module _ {B L : Type 0} where
  abbrev pub aways : ℕ → List (Slot B L)
  aways zero = []
  aways (suc n) = Away ∷ aways n

  -- each card in the slot of its path
  abbrev pub placed : List (Slot B L) → List (Card B L) → List (Slot B L)
  placed slots [] = slots
  placed slots (c ∷ cs) = placed (slice_set slots c.path (Waits c)) cs

  -- Each card's path starts in the pool, and each such path has its card. The paths rise.
  pub record ArePool (starts : List Start) (pool : List (Card B L)) : Type 0 where
    pub there : (k : ℕ) (c : Card B L) → slice_get pool k ≡ Some c → slice_get starts c.path ≡ Some Pool
    pub all : (p : ℕ) → slice_get starts p ≡ Some Pool
        → (k : ℕ) × (c : Card B L) × (slice_get pool k ≡ Some c) × (c.path ≡ p)
    pub rises : (i j : ℕ) (a b : Card B L) → i < j → slice_get pool i ≡ Some a → slice_get pool j ≡ Some b
        → a.path < b.path

  -- the cards of each desk, from driver k on, are those of the driver's paths, in path order
  abbrev pub AreDealt : List Start → ℕ → List (Vec (Card B L)) → Type 0
  AreDealt starts k [] = Unit {0}
  AreDealt starts k (v ∷ vs) = (map (λ c. c.path) v.items ≡ paths_of k starts) × AreDealt starts (suc k) vs

  abbrev pub AreNew : Sight B L → List (Card B L) → Type 0
  AreNew see cards = (k : ℕ) (c : Card B L) → slice_get cards k ≡ Some c → IsNewCard (seen see c)

  -- passes that have nothing in hand, in order of number from k on
  abbrev pub HasNothing : TableId → BookPlan B L → ℕ → ℕ → SeatView HistoryEntry (BookPlan B L) → Type 0
  HasNothing lock d k made s = (c : Core) × IsPass lock d k made s c × ((q : ℕ) → held_at c k q ≡ false)

  abbrev pub AreIdle : TableId → BookPlan B L → ℕ → ℕ → List (SeatView HistoryEntry (BookPlan B L)) → Type 0
  AreIdle lock d k made [] = Unit {0}
  AreIdle lock d k made (s ∷ ss) = HasNothing lock d k made s × AreIdle lock d (suc k) 0 ss

  -- they have done nothing yet
  abbrev pub AreFresh : List (SeatView HistoryEntry (BookPlan B L)) → Type 0
  AreFresh [] = Unit {0}
  AreFresh (s ∷ ss) = (mine_of s ≡ []) × (seen_of s ≡ []) × AreFresh ss

  -- what a book is made for
  abbrev pub plan_for : Vec (Card B L) → Vec (Vec (Card B L)) → Vec Start → ℕ → BookPlan B L
  plan_for pool desks starts workers =
      record { pool = pool; desks = desks; starts = starts; workers = workers; drivers = length desks.items }

  -- a book can be made for it
  pub record IsPlan (see : Sight B L) (d : BookPlan B L) : Type 0 where
    pub few_paths : length d.starts.items < 2 ^ 32
    pub below : AreBelow d.drivers d.starts.items
    pub some : 1 ≤ d.workers
    pub few_workers : d.workers ≤ 16
    pub few_desks : d.drivers ≤ 16
    pub pool_is : ArePool d.starts.items d.pool.items
    pub new : AreNew see (cards_of d)

  -- the passes of its actors, which have done nothing yet
  pub record IsBegun (lock : TableId) (d : BookPlan B L) (passes : List (SeatView HistoryEntry (BookPlan B L)))
      : Type 0 where
    pub count : length passes ≡ d.workers + d.drivers
    pub idle : AreIdle lock d 0 (d.workers + d.drivers) passes
    pub fresh : AreFresh passes

  -- The shelf, after all passes came back: their entries are all that its history has, and nothing is in hand.
  pub record IsFinished (see : Sight B L) (d : BookPlan B L) (ss : List (SeatView HistoryEntry (BookPlan B L)))
      (s : Shelf B L) : Type 0 where
    pub plan : plan_of s ≡ d
    pub sound : IsSound see s
    pub room : HasRoom s
    pub begins : (k : ℕ) (p : SeatView HistoryEntry (BookPlan B L)) → slice_get ss k ≡ Some p
        → Begins (seen_of p) (history_of (tell see) s)
    pub mine : (k : ℕ) (p : SeatView HistoryEntry (BookPlan B L)) → slice_get ss k ≡ Some p
        → own k (history_of (tell see) s) ≡ mine_of p
    pub none : (k : ℕ) → length ss ≤ k → own k (history_of (tell see) s) ≡ []
    pub hands : (a : ℕ) (q : ℕ) → held_at s.core a q ≡ false
