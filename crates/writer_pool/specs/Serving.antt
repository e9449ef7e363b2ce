-- How a desk served its cards over a book, as its pass tells.
use Rattle.std.specs.Prelude.{◌≡◌, Bool, List, []}
use Rattle.atomic_table.specs.Seated.{TableId}
use Rattle.turn_lock.specs.Seat.{SeatView}
use Rattle.edge_kit.specs.Starters.{StarterSeen}
use Rattle.checkout_book.specs.declared.plan.BookPlan.{BookPlan}
use Rattle.checkout_book.specs.declared.plan.HistoryEntry.{HistoryEntry}
use Rattle.checkout_book.specs.Sights.{Sight}
use Rattle.driver_line.specs.Lines.{Paths}
use Rattle.driver_desk.specs.declared.desk.Served.{Served}
use Rattle.driver_desk.specs.Desks.{DeskView, AreThrough}
use Rattle.driver_desk.specs.Serving.{IsServed, noted_in}
use Rattle.driver_desk.specs.Ties.{AreTied}
use Rattle.driver_desk.specs.Works.{WorkSeen, AreRead, FitAll, asked_in, cards_in}
use Rattle.writer_pool.specs.OnBook.{IsDeskPass, Recording, place_of, standing_of, given_of}

-- a pass of a desk whose driver is required or not
abbrev pub recording : {B L : Type 0} → Bool → SeatView HistoryEntry (BookPlan B L) → Recording B L
recording required pass = record { pass = pass; required = required }

-- The desk is through with its cards, and its pass lists what it did. What is left of the desk has the notes of its
-- talk, and its starter, whose sessions are a talk over the works whose object was read. Each work ended as what its
-- object gave says.
pub record IsServedOn {S B L : Type 0} (starter : S → StarterSeen) (see : Sight B L) (lock : TableId) (required : Bool)
    (desk : DeskView) (old new : SeatView HistoryEntry (BookPlan B L)) (left : Served S) : Type 0 where
  pub pass : IsDeskPass lock new
  pub place : place_of (recording required new) ≡ place_of (recording required old)
  pub through : AreThrough (standing_of see (recording required new)) (given_of see (recording required new))
  pub talk : left.talk.items ≡ noted_in (given_of see (recording required new))
  pub works : List WorkSeen
  pub cards : desk.cards ≡ cards_in works
  pub read : AreRead works
  pub served : (paths : Paths) → FitAll paths works
      → IsServed desk.driver paths (asked_in works) desk.starter (starter left.starter) []
      (given_of see (recording required new))
  pub tied : AreTied works (given_of see (recording required new))
