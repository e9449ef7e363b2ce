-- How the paths of a checkout end.
use Rattle.std.specs.Prelude.{◌≡◌, ◌<◌, ◌+◌, ℕ, suc, Bool, true, false, List, [], ◌∷◌, Option, Some, None, slice_get}
use Rattle.atomic_table.specs.Seated.{TableId}
use Rattle.delay_table.specs.Table.{contains}
use Rattle.turn_lock.specs.Seat.{SeatView, mine_of}
use Rattle.convert_plan.specs.declared.card.Card.{Card}
use Rattle.checkout_core.specs.declared.event.Event.{Event}
use Rattle.checkout_core.specs.declared.event.Event.TheVariants.{Close}
use Rattle.checkout_core.specs.declared.path.Path.{Path}
use Rattle.checkout_core.specs.declared.path.Start.{Start}
use Rattle.checkout_core.specs.declared.path.Start.TheVariants.{Pool, Desk, Done}
use Rattle.checkout_core.specs.declared.verdict.Own.{Own}
use Rattle.checkout_core.specs.declared.verdict.Verdict.{Verdict}
use Rattle.checkout_core.specs.States.{Core, verdict_at}
use Rattle.checkout_core.specs.Steps.{IsLegal}
use Rattle.checkout_core.specs.Closes.{IsComplete, own_of}
use Rattle.checkout_core.specs.Hands.{held_at}
use Rattle.checkout_core.specs.Desks.{paths_of, is_left}
use Rattle.core_laws.specs.Moves.{is_with_driver}
use Rattle.checkout_book.specs.declared.plan.BookPlan.{BookPlan}
use Rattle.checkout_book.specs.declared.plan.Parts.{Parts}
use Rattle.checkout_book.specs.declared.plan.HistoryEntry.{HistoryEntry}
use Rattle.checkout_book.specs.declared.shelf.Slot.TheVariants.{Ended}
use Rattle.checkout_book.specs.Shape.{Shelf}
use Rattle.checkout_book.specs.Sights.{Sight, seen}
use Rattle.checkout_book.specs.Shelves.{cards_of, plan_of}
use Rattle.checkout_book.specs.Ending.{GoesOn}
use Rattle.checkout_book.specs.Turns.{NoneWaits}
use Rattle.checkout_book.specs.Reserving.{HasNothing}
use Rattle.writer_pool.specs.Closing.{IsFromDesk, RefusedBacks, EndsCard, ClosesCard}
use Rattle.card_worker.specs.Working.{blob_in, leaf_in, own_events}

-- the history is a complete run, with these verdicts
pub record IsRun (starts : List Start) (workers drivers : ℕ) (history : List Event) (verdicts : List Verdict)
    : Type 0 where
  pub core : Core
  pub legal : IsLegal starts workers drivers history core
  pub complete : IsComplete core
  pub each : (p : ℕ) → slice_get verdicts p ≡ verdict_at core p

-- no path is with its driver
abbrev pub NoneWithDriver : Core → Type 0
NoneWithDriver c = (p : ℕ) (r : Path) → slice_get c.paths p ≡ Some r → is_with_driver r.state ≡ false

module _ {B L : Type 0} (see : Sight B L) where
  -- The Close of a path at this place of an actor's own list has the blob and the leaf of the path's card, and shows
  -- how the card ended. If the card never left its desk, the actor is this desk: the desks come after the workers.
  pub record ShowsEnd (d : BookPlan B L) (mine : List Event) (place p actor : ℕ) (o : Own) (parts : Option Parts)
      : Type 0 where
    pub ended : Parts
    pub there : parts ≡ Some ended
    pub number : ℕ
    pub card : Card B L
    pub planned : slice_get (cards_of d) number ≡ Some card
    pub path : card.path ≡ p
    pub ends : EndsCard d.starts.items mine place p actor o (seen see card) (blob_in ended) (leaf_in ended)
    pub desk : (q : ℕ) (required : Bool) → IsFromDesk d.starts.items mine place p actor q required
        → actor ≡ d.workers + q

  -- each Close in an actor's own list does
  abbrev pub IsShownAll : BookPlan B L → List HistoryEntry → Type 0
  IsShownAll d mine = (i : ℕ) (e : HistoryEntry) (p a : ℕ) (o : Own) → slice_get mine i ≡ Some e → e.event ≡ Close p a o
      → ShowsEnd d (own_events mine) i p a o e.parts

  -- A pass that came back with nothing in hand. A desk closed each path of its driver, or handed it back because the
  -- driver refused it.
  pub record IsBack (lock : TableId) (d : BookPlan B L) (n made : ℕ) (s : SeatView HistoryEntry (BookPlan B L))
      : Type 0 where
    pub nothing : HasNothing lock d n made s
    pub shown : IsShownAll d (mine_of s)
    pub backs : RefusedBacks d.starts.items (own_events (mine_of s))
    pub left : (q p : ℕ) → q < d.drivers → n ≡ d.workers + q → contains p (paths_of q d.starts.items) ≡ true
        → is_left p (own_events (mine_of s)) ≡ true

  abbrev pub AreBack : TableId → BookPlan B L → ℕ → ℕ → List (SeatView HistoryEntry (BookPlan B L)) → Type 0
  AreBack lock d k made [] = Unit {0}
  AreBack lock d k made (s ∷ ss) = IsBack lock d k made s × AreBack lock d (suc k) 0 ss

  -- The blob and the leaf are those of the card. The history has the Close of its path, and what is seen of them shows
  -- how the card ended.
  pub record IsClosedSo (starts : List Start) (history : List Event) (card : Card B L) (blob : B) (leaf : L)
      : Type 0 where
    pub actor : ℕ
    pub own : Own
    pub place : ℕ
    pub entry : slice_get history place ≡ Some (Close card.path actor own)
    pub own_is : own_of card.path None history ≡ Some own
    pub told : see.told blob ≡ see.told card.blob
    pub name : (see.blob blob).name ≡ (see.blob card.blob).name
    pub path : (see.leaf leaf).path ≡ (see.leaf card.leaf).path
    pub ends : ClosesCard starts history place card.path actor own (seen see card) (see.blob blob) (see.leaf leaf)

  module _ (starts : List Start) (history : List Event) (cards : List (Card B L)) where
    -- the blob and the leaf of the card of the path p
    abbrev pub IsEndOf : ℕ → B → L → Type 0
    IsEndOf p blob leaf = (k : ℕ) × (card : Card B L) × (slice_get cards k ≡ Some card) × (card.path ≡ p)
        × IsClosedSo starts history card blob leaf

    -- the blobs and the leaves of the paths from p on that aren't closed from the start, in path order
    abbrev pub AreEnds : ℕ → List Start → List B → List L → Type 0
    AreEnds p [] [] [] = Unit {0}
    AreEnds p (Done v ∷ ss) bs ls = AreEnds (suc p) ss bs ls
    AreEnds p (Pool ∷ ss) (b ∷ bs) (l ∷ ls) = IsEndOf p b l × AreEnds (suc p) ss bs ls
    AreEnds p (Desk d required ∷ ss) (b ∷ bs) (l ∷ ls) = IsEndOf p b l × AreEnds (suc p) ss bs ls
    AreEnds _ _ _ _ = ⊥

  -- A shelf that no actor has any more. Nothing is in hand or with a driver, and its closed slots show how each card
  -- ended.
  pub record IsQuiet (s : Shelf B L) : Type 0 where
    pub goes_on : GoesOn see s
    pub hands : (a q : ℕ) → held_at s.core a q ≡ false
    pub away : NoneWithDriver s.core
    pub backs : RefusedBacks (plan_of s).starts.items s.events.items
    pub closed : (i p a : ℕ) (o : Own) → slice_get s.events.items i ≡ Some (Close p a o)
        → (b : B) × (l : L) × (slice_get s.slots.items p ≡ Some (Ended b l))
        × (k : ℕ) × (card : Card B L) × (slice_get (cards_of (plan_of s)) k ≡ Some card) × (card.path ≡ p)
        × EndsCard (plan_of s).starts.items s.events.items i p a o (seen see card) (see.blob b) (see.leaf l)

  -- and no card waits
  pub record IsThrough (d : BookPlan B L) (s : Shelf B L) : Type 0 where
    pub quiet : IsQuiet s
    pub plan : plan_of s ≡ d
    pub none : NoneWaits s.core
