-- The history of a shelf: each event with its actor, and of a close what the closed card's parts tell.
use Rattle.std.specs.Prelude.{◌≡◌, ℕ, true, List, [], ◌∷◌, map, Option, Some, None, slice_get, is_some}
use Rattle.checkout_core.specs.declared.path.Start.{Start}
use Rattle.checkout_core.specs.declared.event.Event.{Event}
use Rattle.checkout_core.specs.declared.event.Event.TheVariants.{Close}
use Rattle.checkout_core.specs.Actors.{actor_of}
use Rattle.checkout_book.specs.declared.plan.Parts.{Parts}
use Rattle.checkout_book.specs.declared.plan.HistoryEntry.{HistoryEntry}
use Rattle.checkout_book.specs.declared.shelf.Slot.{Slot}
use Rattle.checkout_book.specs.declared.shelf.Slot.TheVariants.{Ended}
use Rattle.checkout_book.specs.Shape.{Shelf}

-- the number of an event's actor
abbrev pub number_or : Option ℕ → ℕ
number_or None = 0
number_or (Some a) = a

abbrev pub number_in : List Start → ℕ → Event → ℕ
number_in starts workers e = number_or (actor_of starts workers e)

-- each event has an actor
abbrev pub HaveActors : List Start → ℕ → List Event → Type 0
HaveActors starts workers [] = Unit {0}
HaveActors starts workers (e ∷ es) = (is_some (actor_of starts workers e) ≡ true) × HaveActors starts workers es

module _ {B L : Type 0} (tells : B → L → Parts) where
  abbrev pub parts_at : Option (Slot B L) → Option Parts
  parts_at (Some (Ended b l)) = Some (tells b l)
  parts_at _ = None

  abbrev pub parts_of : List (Slot B L) → Event → Option Parts
  parts_of slots (Close p a o) = parts_at (slice_get slots p)
  parts_of slots _ = None

  abbrev pub entry_of : List (Slot B L) → Event → HistoryEntry
  entry_of slots e = record { event = e; parts = parts_of slots e }

  abbrev pub entries : List Start → ℕ → List (Slot B L) → List Event → List (ℕ × HistoryEntry)
  entries starts workers slots es = map (λ e. (number_in starts workers e, entry_of slots e)) es

  abbrev pub history_of : Shelf B L → List (ℕ × HistoryEntry)
  history_of s = entries s.starts.value.items s.workers s.slots.items s.events.items

-- the events of a history
abbrev pub events_of : List (ℕ × HistoryEntry) → List Event
events_of h = map (λ x. x.1.event) h
