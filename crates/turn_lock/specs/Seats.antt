-- The seats of one lock, none of them inside.
use Rattle.std.specs.Prelude.{◌≡◌, ℕ, suc, List, [], ◌∷◌, Some}
use Rattle.atomic_table.specs.Seated.{TableId}
use Rattle.turn_lock.specs.declared.view.SeatPlace.TheVariants.{Out, Inside}
use Rattle.turn_lock.specs.History.{own}
use Rattle.turn_lock.specs.Seat.{SeatView, place_of, told_of, seen_of, mine_of, number_of, made_of, turns_of, left}

module _ {E D : Type 0} where
  -- The seat of this lock with this number. `made` is how many given numbers it knows of: 0 in each seat except the
  -- first.
  pub record IsSeat (lock : TableId) (d : D) (number made : ℕ) (s : SeatView E D) : Type 0 where
    pub of : s.lock ≡ lock
    pub out : place_of s ≡ Out
    pub told : told_of s ≡ Some d
    pub named : number_of s ≡ number
    pub makes : made_of s ≡ made
    pub receipts : mine_of s ≡ own number (seen_of s)

  -- seats in order of number, from k on
  abbrev pub AreSeats : TableId → D → ℕ → ℕ → List (SeatView E D) → Type 0
  AreSeats lock d k made [] = Unit {0}
  AreSeats lock d k made (s ∷ ss) = IsSeat lock d k made s × AreSeats lock d (suc k) 0 ss

  -- what a seat is in the last of its turns, and after it left with any history
  pub record Within (d : D) (n made turns : ℕ) (h : List (ℕ × E)) (lock : TableId) (s : SeatView E D) : Type 0 where
    pub of : s.lock ≡ lock
    pub place : place_of s ≡ Inside h
    pub told : told_of s ≡ Some d
    pub number : number_of s ≡ n
    pub turn : (new : List (ℕ × E))
        → IsSeat lock d n made (left new s) × (seen_of (left new s) ≡ new) × (mine_of (left new s) ≡ own n new)
        × (turns_of (left new s) ≡ turns)
