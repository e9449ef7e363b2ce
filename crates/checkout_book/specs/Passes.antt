-- What a pass of a book sees, and what a turn of it does.
use Rattle.std.specs.Prelude.{◌≡◌, ◌==◌, ℕ, ◌+◌, ◌<◌, true, false, cond, List, [], ◌∷◌, ◌++◌, Option, Some, None}
use Rattle.std.specs.Prelude.{MatchOption, slice_get}
use Rattle.atomic_table.specs.Seated.{TableId}
use Rattle.turn_lock.specs.History.{Begins}
use Rattle.turn_lock.specs.Seat.{SeatView, seen_of, mine_of, turns_of}
use Rattle.turn_lock.specs.Seats.{IsSeat}
use Rattle.convert_plan.specs.declared.card.Card.{Card}
use Rattle.checkout_core.specs.declared.verdict.FilterCause.{FilterCause}
use Rattle.checkout_core.specs.declared.verdict.Own.{Own}
use Rattle.checkout_core.specs.declared.path.PathState.TheVariants.{Waiting}
use Rattle.checkout_core.specs.declared.path.Path.{Path}
use Rattle.checkout_core.specs.declared.path.Start.{Start}
use Rattle.checkout_core.specs.declared.event.Event.{Event}
use Rattle.checkout_core.specs.declared.event.Event.TheVariants.{Claim, Close}
use Rattle.checkout_core.specs.States.{Core, start}
use Rattle.checkout_core.specs.Steps.{replay}
use Rattle.checkout_core.specs.Actors.{actor_of}
use Rattle.checkout_core.specs.Hands.{held_at, Holds}
use Rattle.checkout_book.specs.declared.plan.BookPlan.{BookPlan}
use Rattle.checkout_book.specs.declared.plan.Parts.{Parts}
use Rattle.checkout_book.specs.declared.plan.HistoryEntry.{HistoryEntry}
use Rattle.checkout_book.specs.Entries.{events_of}
use Rattle.checkout_book.specs.Sights.{Sight, seen}
use Rattle.checkout_book.specs.Shelves.{cards_of, is_waiting, IsPlanned, WaitsSo}
use Rattle.checkout_book.specs.Turns.{NoneWaits}

-- each entry stands under the number of its event's actor
abbrev pub Stamped : List Start → ℕ → List (ℕ × HistoryEntry) → Type 0
Stamped starts workers [] = Unit {0}
Stamped starts workers (x ∷ xs) = (actor_of starts workers x.1.event ≡ Some x.0) × Stamped starts workers xs

abbrev pub claim_entry : ℕ → ℕ → HistoryEntry
claim_entry p n = record { event = Claim p n; parts = None }

abbrev pub close_entry : ℕ → ℕ → Own → Parts → HistoryEntry
close_entry p n o parts = record { event = Close p n o; parts = Some parts }

abbrev pub note_entry : Event → HistoryEntry
note_entry e = record { event = e; parts = None }

-- what the actor has in hand in the one state but this path, it has in hand in the other
abbrev pub Keeps : ℕ → Core → Core → ℕ → Type 0
Keeps n c x p = (q : ℕ) (raw : Option FilterCause) → (q ≡ p → ⊥) → Holds c q n raw → Holds x q n raw

module _ {B L : Type 0} where
  -- the history is a run of the core, which leaves it so
  pub record IsRun (d : BookPlan B L) (h : List (ℕ × HistoryEntry)) (c : Core) : Type 0 where
    pub stamped : Stamped d.starts.items d.workers h
    pub run : replay (start d.starts.items d.workers d.drivers) (events_of h) ≡ Some c

  -- The pass of the actor n, which isn't inside, of a book for the plan d. The history that it saw leaves the core c.
  pub record IsPass (lock : TableId) (d : BookPlan B L) (n made : ℕ) (s : SeatView HistoryEntry (BookPlan B L))
      (c : Core) : Type 0 where
    pub seat : IsSeat lock d n made s
    pub reads : IsRun d (seen_of s) c
    pub actor : n < d.workers + d.drivers

  -- After exactly one turn: the pass now saw the history as this turn left it.
  pub record IsTurned (lock : TableId) (d : BookPlan B L) (n made : ℕ) (old new : SeatView HistoryEntry (BookPlan B L))
      (x : Core) : Type 0 where
    pub pass : IsPass lock d n made new x
    pub turns : turns_of new ≡ turns_of old + 1
    pub seen : Begins (seen_of old) (seen_of new)

  -- what the pass saw then ends with this entry
  abbrev pub EndsWith : ℕ → HistoryEntry → SeatView HistoryEntry (BookPlan B L) → SeatView HistoryEntry (BookPlan B L)
      → Type 0
  EndsWith n e old new = (before : List (ℕ × HistoryEntry)) × Begins (seen_of old) before
      × (seen_of new ≡ before ++ (n, e) ∷ [])

  -- no card waits
  pub record TookNone (lock : TableId) (d : BookPlan B L) (n made : ℕ) (old new : SeatView HistoryEntry (BookPlan B L))
      (c x : Core) : Type 0 where
    pub turn : IsTurned lock d n made old new x
    pub mine : mine_of new ≡ mine_of old
    pub none : NoneWaits x
    pub hands : (q : ℕ) → held_at x n q ≡ held_at c n q
    pub keeps : (q : ℕ) (raw : Option FilterCause) → Holds c q n raw → Holds x q n raw

  -- the planned card of a path, with nothing changed but `ready`, is in the actor's hands
  pub record TookCard (see : Sight B L) (lock : TableId) (d : BookPlan B L) (n made : ℕ)
      (old new : SeatView HistoryEntry (BookPlan B L)) (c x : Core) (k : Card B L) : Type 0 where
    pub turn : IsTurned lock d n made old new x
    pub mine : mine_of new ≡ mine_of old ++ claim_entry k.path n ∷ []
    pub last : EndsWith n (claim_entry k.path n) old new
    pub lowest : (q : ℕ) (r : Path) → q < k.path → slice_get x.paths q ≡ Some r → is_waiting r.state ≡ false
    pub planned : IsPlanned see (cards_of d) k
    pub raw : Option FilterCause
    pub holds : Holds x k.path n raw
    pub ready : WaitsSo (seen see k) (Waiting raw) k.ready
    pub hands : (q : ℕ) → held_at x n q ≡ cond (q == k.path) true (held_at c n q)
    pub fresh : held_at c n k.path ≡ false
    pub keeps : Keeps n c x k.path

  abbrev pub Claims : Sight B L → TableId → BookPlan B L → ℕ → ℕ → SeatView HistoryEntry (BookPlan B L)
      → SeatView HistoryEntry (BookPlan B L) → Core → Option (Card B L) → Type 0
  Claims see lock d n made old new c result = (x : Core)
      × MatchOption result (TookNone lock d n made old new c x) (λ k. TookCard see lock d n made old new c x k)

  pub record Closes (lock : TableId) (d : BookPlan B L) (n made : ℕ) (old new : SeatView HistoryEntry (BookPlan B L))
      (c : Core) (p : ℕ) (o : Own) (parts : Parts) : Type 0 where
    pub core : Core
    pub turn : IsTurned lock d n made old new core
    pub mine : mine_of new ≡ mine_of old ++ close_entry p n o parts ∷ []
    pub last : EndsWith n (close_entry p n o parts) old new
    pub hands : (q : ℕ) → held_at core n q ≡ cond (q == p) false (held_at c n q)
    pub keeps : Keeps n c core p

  pub record Appends (lock : TableId) (d : BookPlan B L) (n made : ℕ) (old new : SeatView HistoryEntry (BookPlan B L))
      (c : Core) (e : Event) : Type 0 where
    pub core : Core
    pub turn : IsTurned lock d n made old new core
    pub mine : mine_of new ≡ mine_of old ++ note_entry e ∷ []
    pub last : EndsWith n (note_entry e) old new
    pub hands : (q : ℕ) → held_at core n q ≡ held_at c n q
