-- What holds of a shelf whenever no actor has it.
use Rattle.std.specs.Prelude.{◌≡◌, ℕ, ◌≤◌, ◌<◌, ◌*◌, Bool, true, false, List, [], ◌∷◌, ◌++◌, map, length, Option}
use Rattle.std.specs.Prelude.{Some, None, slice_get, vec_capacity}
use Rattle.std.specs.Global.{Vec}
use Rattle.tree_encoding.specs.declared.prepared.Prepared.{Prepared}
use Rattle.convert_plan.specs.declared.card.Card.{Card}
use Rattle.convert_plan.specs.Card.{CardSeen, IsNewCard, IsCardOf, IsPrepared, IsRefusedCard}
use Rattle.checkout_core.specs.declared.path.Path.{Path}
use Rattle.checkout_core.specs.declared.path.PathState.{PathState}
use Rattle.checkout_core.specs.declared.path.PathState.TheVariants.{Waiting}
use Rattle.checkout_core.specs.declared.event.Event.{Event}
use Rattle.checkout_core.specs.declared.event.Event.TheVariants.{Close}
use Rattle.checkout_core.specs.Closes.{closes}
use Rattle.checkout_core.specs.States.{Core, AreBelow, start, is_closed}
use Rattle.checkout_core.specs.Steps.{replay}
use Rattle.checkout_book.specs.declared.plan.BookPlan.{BookPlan}
use Rattle.checkout_book.specs.declared.shelf.Slot.{Slot}
use Rattle.checkout_book.specs.declared.shelf.Slot.TheVariants.{Away, Waits, Ended}
use Rattle.checkout_book.specs.Shape.{Shelf}
use Rattle.checkout_book.specs.Sights.{Sight, seen}
use Rattle.checkout_book.specs.Entries.{HaveActors}

abbrev pub is_waiting : PathState → Bool
is_waiting (Waiting raw) = true
is_waiting _ = false

-- The path waits. Its card is ready exactly where it was handed back, and then with its own content prepared.
abbrev pub WaitsSo : CardSeen → PathState → Option Prepared → Type 0
WaitsSo card (Waiting None) None = Unit {0}
WaitsSo card (Waiting (Some why)) (Some ready) = IsPrepared card ready
WaitsSo card _ _ = ⊥

module _ {B L : Type 0} where
  abbrev pub waits : Slot B L → Bool
  waits (Waits c) = true
  waits _ = false

  abbrev pub joined : List (Vec (Card B L)) → List (Card B L)
  joined [] = []
  joined (v ∷ vs) = v.items ++ joined vs

  -- the planned cards
  abbrev pub cards_of : BookPlan B L → List (Card B L)
  cards_of d = d.pool.items ++ joined d.desks.items

  -- what a shelf was made for
  abbrev pub plan_of : Shelf B L → BookPlan B L
  plan_of s = record {
    pool = s.pool.value;
    desks = s.desks.value;
    starts = s.starts.value;
    workers = s.workers;
    drivers = s.drivers;
  }

  -- there is room for the blob and the leaf of each path
  abbrev pub HasRoom : Shelf B L → Type 0
  HasRoom s = (s.parts.items ≡ []) × (length s.slots.items ≤ vec_capacity s.parts)

  -- the slot holds what an entry of the history says that was closed
  abbrev pub IsEnded : List (Slot B L) → Event → Type 0
  IsEnded slots (Close p a o) = (b : B) × (l : L) × (slice_get slots p ≡ Some (Ended b l))
  IsEnded slots _ = Unit {0}

  abbrev pub AreEnded : List (Slot B L) → List Event → Type 0
  AreEnded slots [] = Unit {0}
  AreEnded slots (e ∷ es) = IsEnded slots e × AreEnded slots es

module _ {B L : Type 0} (see : Sight B L) where
  -- the planned card, with nothing changed but `ready`
  abbrev pub IsPlanned : List (Card B L) → Card B L → Type 0
  IsPlanned cards c = (k : ℕ) × (d : Card B L) × (slice_get cards k ≡ Some d)
      × (seen see c ≡ record (seen see d) { ready = c.ready })

  -- the planned card, as it may be while an actor has it
  abbrev pub IsOut : List (Card B L) → Card B L → Type 0
  IsOut cards c = (k : ℕ) × (d : Card B L) × (slice_get cards k ≡ Some d) × IsCardOf (seen see d) (seen see c)

  -- the planned card, as its desk gives it back
  abbrev pub IsRefused : List (Card B L) → Card B L → Type 0
  IsRefused cards c = (k : ℕ) × (d : Card B L) × (slice_get cards k ≡ Some d)
      × IsRefusedCard (seen see d) (seen see c)

  -- the blob and the leaf of the planned card of this path
  abbrev pub IsFrom : List (Card B L) → ℕ → B → L → Type 0
  IsFrom cards p b l = (k : ℕ) × (d : Card B L) × (slice_get cards k ≡ Some d) × (d.path ≡ p)
      × (see.told b ≡ see.told d.blob) × ((see.blob b).name ≡ (see.blob d.blob).name)
      × ((see.leaf l).path ≡ (see.leaf d.leaf).path)

  -- what lies in the slot of a path, by the path's state
  abbrev pub Lies : List (Card B L) → ℕ → Slot B L → PathState → Type 0
  Lies cards p Away s = is_waiting s ≡ false
  Lies cards p (Waits c) s = WaitsSo (seen see c) s c.ready × (c.path ≡ p) × IsPlanned cards c
  Lies cards p (Ended b l) s = (is_closed s ≡ true) × IsFrom cards p b l

  abbrev pub IsRow : List (Card B L) → ℕ → Option (Slot B L) → Option Path → Type 0
  IsRow cards p None None = Unit {0}
  IsRow cards p (Some s) (Some r) = Lies cards p s r.state
  IsRow cards p None (Some r) = ⊥
  IsRow cards p (Some s) None = ⊥

  pub record Sound (d : BookPlan B L) (core : Core) (events : List Event) (slots : List (Slot B L))
      (waiting : List Bool) (capacity : ℕ) : Type 0 where
    pub below : AreBelow d.drivers d.starts.items
    pub new : (k : ℕ) (c : Card B L) → slice_get (cards_of d) k ≡ Some c → IsNewCard (seen see c)
    -- the state is the replay of the history, which is legal
    pub run : replay (start d.starts.items d.workers d.drivers) events ≡ Some core
    pub actors : HaveActors d.starts.items d.workers events
    -- the waiting cards are those of the waiting paths
    pub rows : (p : ℕ) → IsRow (cards_of d) p (slice_get slots p) (slice_get core.paths p)
    pub flags : waiting ≡ map (λ s. waits s) slots
    -- the parts of each closed card are there
    pub ended : AreEnded slots events
    -- and no others
    pub closed : (p : ℕ) (b : B) (l : L) → slice_get slots p ≡ Some (Ended b l) → 0 < closes p events
    -- a history has nine events a path at most, and there is room for ten
    pub room : 10 * length d.starts.items ≤ capacity

  abbrev pub IsSound : Shelf B L → Type 0
  IsSound s = Sound (plan_of s) s.core s.events.items s.slots.items s.waiting (vec_capacity s.events)
