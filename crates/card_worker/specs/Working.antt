-- What an actor did with the cards that it claimed.
use Rattle.std.specs.Prelude.{◌≡◌, ℕ, List, [], ◌∷◌, ◌++◌, map, Option, Some, None, slice_get}
use Rattle.atomic_table.specs.Seated.{TableId}
use Rattle.turn_lock.specs.History.{Begins}
use Rattle.turn_lock.specs.Seat.{SeatView, mine_of, seen_of}
use Rattle.edge_kit.specs.Seen.{BlobSeen, LeafSeen}
use Rattle.convert_plan.specs.declared.card.Card.{Card}
use Rattle.checkout_core.specs.declared.event.Event.{Event}
use Rattle.checkout_core.specs.declared.event.Event.TheVariants.{Close}
use Rattle.checkout_core.specs.States.{Core}
use Rattle.checkout_core.specs.Notes.{noted}
use Rattle.checkout_book.specs.declared.plan.BookPlan.{BookPlan}
use Rattle.checkout_book.specs.declared.plan.Parts.{Parts}
use Rattle.checkout_book.specs.declared.plan.HistoryEntry.{HistoryEntry}
use Rattle.checkout_book.specs.Sights.{Sight, seen}
use Rattle.checkout_book.specs.Shelves.{cards_of}
use Rattle.checkout_book.specs.Turns.{NoneWaits}
use Rattle.checkout_book.specs.Passes.{IsPass}
use Rattle.checkout_book.specs.Reserving.{HasNothing, AreNew}
use Rattle.card_worker.specs.Turns.{AreTurns}
use Rattle.card_worker.specs.Writing.{WritesCard}

-- what is seen of the blob and the leaf of a closed card, as the entry of its Close tells
abbrev pub blob_in : Parts → BlobSeen
blob_in x = record { name = x.name; faults = x.blob_faults }

abbrev pub leaf_in : Parts → LeafSeen
leaf_in x = record { path = x.path; content = x.content; state = x.state; faults = x.leaf_faults }

-- the events of a pass's own list
abbrev pub own_events : List HistoryEntry → List Event
own_events es = map (λ e. e.event) es

module _ {B L : Type 0} (see : Sight B L) where
  -- what the entry of a Close tells is how the writing of its path's card ended
  abbrev pub IsShown : List (Card B L) → Event → Option Parts → Type 0
  IsShown cards (Close p a o) (Some x) = (k : ℕ) × (card : Card B L) × (slice_get cards k ≡ Some card)
      × (card.path ≡ p) × WritesCard (seen see card) o (blob_in x) (leaf_in x)
  IsShown cards (Close p a o) None = ⊥
  IsShown cards e x = Unit {0}

  abbrev pub AreShown : List (Card B L) → List HistoryEntry → Type 0
  AreShown cards [] = Unit {0}
  AreShown cards (e ∷ es) = IsShown cards e.event e.parts × AreShown cards es

  -- the actor has nothing in hand, and the planned cards are new
  abbrev pub IsReady : TableId → BookPlan B L → ℕ → ℕ → SeatView HistoryEntry (BookPlan B L) → Type 0
  IsReady lock d n made s = HasNothing lock d n made s × AreNew see (cards_of d)

  -- The actor has nothing in hand again. What it did meanwhile are turns, in which each Close shows how the writing of
  -- its path's card ended.
  pub record Worked (lock : TableId) (d : BookPlan B L) (n made : ℕ) (old new : SeatView HistoryEntry (BookPlan B L))
      : Type 0 where
    pub nothing : HasNothing lock d n made new
    pub more : List HistoryEntry
    pub mine : mine_of new ≡ mine_of old ++ more
    pub turns : AreTurns (own_events more)
    pub shown : AreShown (cards_of d) more
    pub quiet : noted (own_events more) ≡ []
    pub seen : Begins (seen_of old) (seen_of new)

  -- and at its last turn no path waited
  pub record Idled (lock : TableId) (d : BookPlan B L) (n made : ℕ) (old new : SeatView HistoryEntry (BookPlan B L))
      : Type 0 where
    pub worked : Worked lock d n made old new
    pub last : (c : Core) × IsPass lock d n made new c × NoneWaits c
