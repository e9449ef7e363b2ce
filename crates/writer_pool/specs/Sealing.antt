-- The leaves of the cards that desks closed, in an own list and by the history.
use Rattle.std.specs.Prelude.{◌≡◌, ◌<◌, ℕ, zero, suc, Bool, List, [], ◌∷◌, Option, None, Some, slice_get}
use Rattle.edge_kit.specs.Seen.{LeafSeen}
use Rattle.checkout_core.specs.declared.event.Event.{Event}
use Rattle.checkout_core.specs.declared.event.Event.TheVariants.{Claim, Close}
use Rattle.checkout_core.specs.declared.path.Start.{Start}
use Rattle.checkout_core.specs.declared.path.Start.TheVariants.{Done}
use Rattle.checkout_core.specs.declared.verdict.Own.{Own}
use Rattle.checkout_book.specs.declared.plan.Parts.{Parts}
use Rattle.checkout_book.specs.declared.plan.HistoryEntry.{HistoryEntry}
use Rattle.checkout_book.specs.declared.shelf.Slot.{Slot}
use Rattle.checkout_book.specs.declared.shelf.Slot.TheVariants.{Ended}
use Rattle.checkout_book.specs.Shape.{Shelf}
use Rattle.checkout_book.specs.Sights.{Sight}
use Rattle.checkout_book.specs.Passes.{close_entry}
use Rattle.writer_pool.specs.Closing.{IsFromDesk}
use Rattle.card_worker.specs.Working.{leaf_in, own_events}

-- In its own list, an actor closed the path p, which it hadn't claimed, and its leaf ended so.
pub record EndsIn (mine : List HistoryEntry) (p : ℕ) (leaf : LeafSeen) : Type 0 where
  pub place : ℕ
  pub actor : ℕ
  pub own : Own
  pub ended : Parts
  pub here : slice_get mine place ≡ Some (close_entry p actor own ended)
  pub unclaimed : (j : ℕ) → j < place → slice_get (own_events mine) j ≡ Some (Claim p actor) → ⊥
  pub is : leaf_in ended ≡ leaf

module _ {B L : Type 0} (see : Sight B L) where
  -- By the history, the card of the path p never left the desk of the driver d, and its leaf ended so.
  pub record EndsAt (starts : List Start) (history : List Event) (leaf_of : ℕ → Option L) (d p : ℕ)
      (end : LeafSeen) : Type 0 where
    pub place : ℕ
    pub actor : ℕ
    pub own : Own
    pub required : Bool
    pub leaf : L
    pub entry : slice_get history place ≡ Some (Close p actor own)
    pub desk : IsFromDesk starts history place p actor d required
    pub there : leaf_of p ≡ Some leaf
    pub is : see.leaf leaf ≡ end

module _ {L : Type 0} where
  -- the leaf of the path p, of those of the paths that aren't closed from the start
  abbrev pub leaf_at : List Start → List L → ℕ → Option L
  leaf_at [] leaves p = None
  leaf_at (Done v ∷ ss) leaves zero = None
  leaf_at (Done v ∷ ss) leaves (suc p) = leaf_at ss leaves p
  leaf_at (s ∷ ss) [] p = None
  leaf_at (s ∷ ss) (leaf ∷ leaves) zero = Some leaf
  leaf_at (s ∷ ss) (leaf ∷ leaves) (suc p) = leaf_at ss leaves p

  -- of all leaves, these are those of the paths from p on that aren't closed from the start
  abbrev pub AreAtPaths : List Start → List L → ℕ → List Start → List L → Type 0
  AreAtPaths starts leaves p [] [] = Unit {0}
  AreAtPaths starts leaves p (Done v ∷ ss) ls = AreAtPaths starts leaves (suc p) ss ls
  AreAtPaths starts leaves p (s ∷ ss) (l ∷ ls) =
      (leaf_at starts leaves p ≡ Some l) × AreAtPaths starts leaves (suc p) ss ls
  AreAtPaths _ _ _ _ _ = ⊥

module _ {B L : Type 0} where
  -- the leaf of a slot that is closed
  abbrev pub leaf_in_slot : Option (Slot B L) → Option L
  leaf_in_slot (Some (Ended b l)) = Some l
  leaf_in_slot x = None

  -- the same by a shelf
  abbrev pub EndsOn : Sight B L → Shelf B L → ℕ → ℕ → LeafSeen → Type 0
  EndsOn see s d p leaf = EndsAt see s.starts.value.items s.events.items
      (λ q. leaf_in_slot (slice_get s.slots.items q)) d p leaf
