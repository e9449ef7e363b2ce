-- What a contract sees of a seat: its lock and what it knows.
use Rattle.std.specs.Prelude.{◌≡◌, ℕ, List, [], ◌∷◌, Option, Some, None}
use Rattle.atomic_table.specs.Table.{Me}
use Rattle.atomic_table.specs.Seated.{TableId}
use Rattle.turn_lock.specs.declared.view.SeatPlace.{SeatPlace}
use Rattle.turn_lock.specs.declared.view.SeatPlace.TheVariants.{Out, Inside}
use Rattle.turn_lock.specs.declared.view.View.{View}
use Rattle.turn_lock.specs.declared.view.Knows.{Knows}
use Rattle.turn_lock.specs.declared.view.Knows.TheVariants.{Spent, Seated}
use Rattle.turn_lock.specs.Rule.{entering, leaving, gave}

-- a lock's table has one word and one slot
abbrev pub IsSmall : TableId → Type 0
IsSmall id = (id.words ≡ 1) × (id.slots ≡ 1)

pub record SeatView (E D : Type 0) : Type 0 where
  pub lock : TableId
  pub known : Knows E D

module _ {E D : Type 0} where
  abbrev pub place : Knows E D → SeatPlace E
  place Spent = Out
  place (Seated v) = v.place

  abbrev pub place_of : SeatView E D → SeatPlace E
  place_of s = place s.known

  abbrev pub told : Knows E D → Option D
  told Spent = None
  told (Seated v) = Some v.told

  abbrev pub told_of : SeatView E D → Option D
  told_of s = told s.known

  abbrev pub seen : Knows E D → List (ℕ × E)
  seen Spent = []
  seen (Seated v) = v.seen

  abbrev pub seen_of : SeatView E D → List (ℕ × E)
  seen_of s = seen s.known

  abbrev pub mine : Knows E D → List E
  mine Spent = []
  mine (Seated v) = v.mine

  abbrev pub mine_of : SeatView E D → List E
  mine_of s = mine s.known

  abbrev pub number : Knows E D → ℕ
  number Spent = 0
  number (Seated v) = v.number

  abbrev pub number_of : SeatView E D → ℕ
  number_of s = number s.known

  abbrev pub made : Knows E D → ℕ
  made Spent = 0
  made (Seated v) = v.made

  abbrev pub made_of : SeatView E D → ℕ
  made_of s = made s.known

  abbrev pub turns : Knows E D → ℕ
  turns Spent = 0
  turns (Seated v) = v.turns

  abbrev pub turns_of : SeatView E D → ℕ
  turns_of s = turns s.known

  abbrev pub enters : List (ℕ × E) → Knows E D → Knows E D
  enters found Spent = Spent
  enters found (Seated v) = Seated (entering found v)

  abbrev pub leaves : List (ℕ × E) → Knows E D → Knows E D
  leaves found Spent = Spent
  leaves found (Seated v) = Seated (leaving found v)

  -- one more number was given
  abbrev pub raised : SeatView E D → SeatView E D
  raised s = record { lock = s.lock; known = gave s.known }

  -- inside, with this history found
  abbrev pub entered : List (ℕ × E) → SeatView E D → SeatView E D
  entered found s = record { lock = s.lock; known = enters found s.known }

  -- out again, with this history seen
  abbrev pub left : List (ℕ × E) → SeatView E D → SeatView E D
  left found s = record { lock = s.lock; known = leaves found s.known }

abbrev pub Holds : {T E : Type 0} → SeatPlace E → List (ℕ × Option T) → Type 0
Holds Out held = held ≡ []
Holds (Inside found) held = held ≡ (0, None) ∷ []

module _ {T E D : Type 0} where
  -- a seat is live, and holds the slot if it is inside
  abbrev pub Shaped : Me (Option T) (Knows E D) → Type 0
  Shaped m = (v : View E D) × (m.0 ≡ Seated v) × Holds v.place m.1

  -- the number that it carries is that of its view
  abbrev pub Numbered : ℕ → Me (Option T) (Knows E D) → Type 0
  Numbered n m = n ≡ number m.0
