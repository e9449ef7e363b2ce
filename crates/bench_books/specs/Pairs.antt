-- A book with a path for any actor, and a path of a driver.
use Rattle.std.specs.Prelude.{◌≡◌, ℕ, false, List, [], ◌∷◌, length, Some, slice_get}
use Rattle.atomic_table.specs.Seated.{TableId}
use Rattle.turn_lock.specs.Seat.{SeatView, seen_of}
use Rattle.convert_plan.specs.declared.card.Card.{Card}
use Rattle.convert_plan.specs.Card.{IsNewCard}
use Rattle.checkout_core.specs.declared.path.Start.{Start}
use Rattle.checkout_core.specs.declared.path.Start.TheVariants.{Pool, Desk}
use Rattle.checkout_book.specs.declared.plan.BookPlan.{BookPlan}
use Rattle.checkout_book.specs.declared.plan.HistoryEntry.{HistoryEntry}
use Rattle.checkout_book.specs.Sights.{Sight, seen}
use Rattle.checkout_book.specs.Shelves.{joined, cards_of}
use Rattle.checkout_book.specs.Reserving.{HasNothing}
use Rattle.bench_books.specs.declared.pair.Pair.{Pair}

-- one path for any actor, and one of a driver that isn't required
abbrev pub two : List Start
two = Pool ∷ Desk 0 false ∷ []

module _ {B L : Type 0} where
  -- what the book of a pair is made for
  abbrev pub pair_plan : Pair B L → BookPlan B L
  pair_plan p = record {
    pool = p.pool;
    desks = p.desks;
    starts = p.starts;
    workers = 1;
    drivers = length p.desks.items;
  }

  -- The first card waits, and the second is the driver's. Both are new.
  pub record IsPair (see : Sight B L) (d : BookPlan B L) (free filtered : Card B L) : Type 0 where
    pub pool : d.pool.items ≡ free ∷ []
    pub desks : joined d.desks.items ≡ filtered ∷ []
    pub count : length d.desks.items ≡ 1
    pub starts : d.starts.items ≡ two
    pub workers : d.workers ≡ 1
    pub drivers : d.drivers ≡ 1
    pub free_path : free.path ≡ 0
    pub filtered_path : filtered.path ≡ 1
    pub free_new : IsNewCard (seen see free)
    pub filtered_new : IsNewCard (seen see filtered)

  -- the pass of the driver's desk, beside one worker, before its first turn
  pub record IsFirst (lock : TableId) (d : BookPlan B L) (made : ℕ) (s : SeatView HistoryEntry (BookPlan B L))
      : Type 0 where
    pub starts : d.starts.items ≡ two
    pub workers : d.workers ≡ 1
    pub drivers : d.drivers ≡ 1
    pub idle : HasNothing lock d 1 made s
    pub fresh : seen_of s ≡ []

  -- the book of a pair as it begins: both passes have nothing in hand, and the desk has its card
  pub record IsBegun (see : Sight B L) (lock : TableId) (d : BookPlan B L)
      (worker desk : SeatView HistoryEntry (BookPlan B L)) (card : Card B L) : Type 0 where
    pub idle : HasNothing lock d 0 2 worker
    pub first : IsFirst lock d 0 desk
    pub planned : slice_get (cards_of d) 1 ≡ Some card
    pub path : card.path ≡ 1
    pub new : IsNewCard (seen see card)
