-- What a book leaves.
use Rattle.std.specs.Prelude.{◌≡◌, ◌==◌, ℕ, zero, suc, ◌<◌, ◌+◌, true, cond, List, [], ◌∷◌, Option, Some, None}
use Rattle.convert_plan.specs.declared.card.Card.{Card}
use Rattle.checkout_core.specs.declared.verdict.FilterCause.{FilterCause}
use Rattle.checkout_core.specs.declared.path.PathState.TheVariants.{Waiting}
use Rattle.checkout_core.specs.Closes.{closing_of}
use Rattle.checkout_core.specs.Hands.{held_at, Holds}
use Rattle.checkout_book.specs.declared.plan.Parts.{Parts}
use Rattle.checkout_book.specs.declared.plan.HistoryEntry.{HistoryEntry}
use Rattle.checkout_book.specs.declared.shelf.Slot.{Slot}
use Rattle.checkout_book.specs.declared.shelf.Slot.TheVariants.{Away, Waits, Ended}
use Rattle.checkout_book.specs.Shape.{Shelf}
use Rattle.checkout_book.specs.Sights.{Sight, seen}
use Rattle.checkout_book.specs.Shelves.{IsSound, HasRoom, IsPlanned, WaitsSo, plan_of, cards_of}

-- what the entry of a path's Close tells
abbrev pub told_of : ℕ → List (ℕ × HistoryEntry) → Option Parts
told_of p [] = None
told_of p (x ∷ xs) = cond (closing_of p x.1.event == 0) (told_of p xs) x.1.parts

abbrev pub with_first : Option Parts → List Parts → List Parts
with_first None rest = rest
with_first (Some first) rest = first ∷ rest

-- the same of each closed path in path order, for n paths from p on
abbrev pub told_from : ℕ → ℕ → List (ℕ × HistoryEntry) → List Parts
told_from p zero h = []
told_from p (suc n) h = with_first (told_of p h) (told_from (suc p) n h)

module _ {B L : Type 0} where
  -- the blob and the leaf of each closed card, in path order
  abbrev pub parts_in : List (Slot B L) → List (B × L)
  parts_in [] = []
  parts_in (Ended b l ∷ ss) = (b, l) ∷ parts_in ss
  parts_in (Away ∷ ss) = parts_in ss
  parts_in (Waits c ∷ ss) = parts_in ss

  -- the shelf is sound, and there is an actor who may go on
  pub record GoesOn (see : Sight B L) (s : Shelf B L) : Type 0 where
    pub sound : IsSound see s
    pub room : HasRoom s
    pub some : 0 < s.workers + s.drivers

  -- The actor n took this card, and the shelf is now so. It is the planned card of its path, with nothing changed but
  -- `ready`, which is there exactly where the card was handed back. The path is in the actor's hands.
  pub record IsTaken (see : Sight B L) (n : ℕ) (s : Shelf B L) (card : Card B L) : Type 0 where
    pub planned : IsPlanned see (cards_of (plan_of s)) card
    pub raw : Option FilterCause
    pub holds : Holds s.core card.path n raw
    pub held : held_at s.core n card.path ≡ true
    pub ready : WaitsSo (seen see card) (Waiting raw) card.ready
