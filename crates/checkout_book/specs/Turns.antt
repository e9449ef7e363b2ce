-- What a turn does to a shelf.
use Rattle.std.specs.Prelude.{◌≡◌, ℕ, ◌<◌, false, [], ◌∷◌, ◌++◌, Some, slice_get, slice_set}
use Rattle.checkout_core.specs.declared.path.Path.{Path}
use Rattle.checkout_core.specs.declared.event.Event.{Event}
use Rattle.checkout_core.specs.declared.event.Event.TheVariants.{Claim}
use Rattle.convert_plan.specs.declared.card.Card.{Card}
use Rattle.checkout_core.specs.States.{Core}
use Rattle.checkout_core.specs.Steps.{step_of}
use Rattle.checkout_book.specs.declared.shelf.Slot.{Slot}
use Rattle.checkout_book.specs.declared.shelf.Slot.TheVariants.{Away, Waits}
use Rattle.checkout_book.specs.Shape.{Shelf}
use Rattle.checkout_book.specs.Shelves.{plan_of, waits, is_waiting}

-- no path waits
abbrev pub NoneWaits : Core → Type 0
NoneWaits c = (p : ℕ) (r : Path) → slice_get c.paths p ≡ Some r → is_waiting r.state ≡ false

module _ {B L : Type 0} where
  -- one event came, and the slot of one path changed
  pub record Turned (e : Event) (p : ℕ) (x : Slot B L) (old new : Shelf B L) : Type 0 where
    pub plan : plan_of new ≡ plan_of old
    pub events : new.events.items ≡ old.events.items ++ e ∷ []
    pub step : step_of old.core e ≡ Some new.core
    pub slots : new.slots.items ≡ slice_set old.slots.items p x

  -- the waiting card of the lowest path was taken
  pub record Claimed (actor : ℕ) (old new : Shelf B L) (c : Card B L) : Type 0 where
    pub turned : Turned (Claim c.path actor) c.path Away old new
    pub was : slice_get old.slots.items c.path ≡ Some (Waits c)
    pub lowest : (q : ℕ) (x : Slot B L) → q < c.path → slice_get old.slots.items q ≡ Some x → waits x ≡ false

  -- nothing was done, since no card waits
  pub record Unclaimed (old new : Shelf B L) : Type 0 where
    pub same : new ≡ old
    pub none : NoneWaits old.core

  -- one event came, and no card moved
  pub record Noted (e : Event) (old new : Shelf B L) : Type 0 where
    pub plan : plan_of new ≡ plan_of old
    pub events : new.events.items ≡ old.events.items ++ e ∷ []
    pub step : step_of old.core e ≡ Some new.core
    pub slots : new.slots.items ≡ old.slots.items
