-- The laws of the core that are used here, as what is passed to a lemma.
use Rattle.std.specs.Prelude.{◌≡◌, ◌≤◌, ◌<◌, ◌+◌, ◌*◌, ◌++◌, ◌||◌, [], ℕ, List, Option, Some, true, false, length}
use Rattle.std.specs.Prelude.{slice_get}
use Rattle.checkout_core.specs.declared.event.Event.{Event}
use Rattle.checkout_core.specs.declared.event.Event.TheVariants.{Claim, Close, HandBack}
use Rattle.checkout_core.specs.declared.path.Start.{Start}
use Rattle.checkout_core.specs.declared.path.Path.{Path}
use Rattle.checkout_core.specs.declared.path.PathState.{PathState}
use Rattle.checkout_core.specs.declared.path.PathState.TheVariants.{Waiting, Held, Closed}
use Rattle.checkout_core.specs.declared.verdict.Verdict.{Verdict}
use Rattle.checkout_core.specs.declared.verdict.FilterCause.{FilterCause}
use Rattle.checkout_core.specs.declared.verdict.Own.{Own}
use Rattle.checkout_core.specs.States.{Core, AreBelow}
use Rattle.checkout_core.specs.Steps.{IsLegal, step_of}
use Rattle.checkout_core.specs.Actors.{actor_of, own_entries, is_claim, is_step, AlikeClaims}
use Rattle.checkout_core.specs.Hands.{Holds, held_at, is_held}
use Rattle.core_laws.specs.Moves.{Moved, RowStays, is_with_driver}
use Rattle.checkout_core.specs.Notes.{is_noted}
use Rattle.atomic_table.specs.Seated.{TableId}
use Rattle.turn_lock.specs.Seat.{SeatView, turns_of, entered}
use Rattle.turn_lock.specs.Seats.{IsSeat, Within}

-- a claim takes its path
abbrev pub TakesPath : Type 0
TakesPath = (c x : Core) (p a : ℕ) → step_of c (Claim p a) ≡ Some x
    → (raw : Option FilterCause) × Moved c x p (Waiting raw) (Held a raw)

-- a waiting path may be claimed
abbrev pub MayTake : Type 0
MayTake = (c : Core) (p a : ℕ) (raw : Option FilterCause) (r : Path) → slice_get c.paths p ≡ Some r
    → r.state ≡ Waiting raw → a < c.workers + length c.drivers → is_step c (Claim p a) ≡ true

-- a close closes its path
abbrev pub ClosesPath : Type 0
ClosesPath = (c x : Core) (p a : ℕ) (o : Own) → step_of c (Close p a o) ≡ Some x
    → (s : PathState) × (v : Verdict) × Moved c x p s (Closed v) × ((is_held a s || is_with_driver s) ≡ true)

-- a path that is handed back waits
abbrev pub BacksPath : Type 0
BacksPath = (c x : Core) (p : ℕ) → step_of c (HandBack p) ≡ Some x
    → (s : PathState) × (why : FilterCause) × Moved c x p s (Waiting (Some why)) × (is_with_driver s ≡ true)

-- a note keeps paths with their driver
abbrev pub KeepsPaths : Type 0
KeepsPaths = (c x : Core) (e : Event) → is_noted e ≡ true → step_of c e ≡ Some x → (p : ℕ)
    → RowStays (slice_get c.paths p) (slice_get x.paths p)

-- a history keeps its size, and is short
abbrev pub KeepsSize : Type 0
KeepsSize = (starts : List Start) (workers drivers : ℕ) (history : List Event) (x : Core)
    → IsLegal starts workers drivers history x
    → (x.workers ≡ workers) × (length x.drivers ≡ drivers) × (length x.paths ≡ length starts)

abbrev pub IsShort : Type 0
IsShort = (starts : List Start) (workers drivers : ℕ) (history : List Event) (x : Core) → AreBelow drivers starts
    → IsLegal starts workers drivers history x → length history ≤ 9 * length starts

-- own entries tell what is in hand
abbrev pub TellsHands : Type 0
TellsHands = (starts : List Start) (workers drivers a : ℕ) (history other : List Event) (x y : Core)
    → AreBelow drivers starts → IsLegal starts workers drivers history x → IsLegal starts workers drivers other y
    → own_entries starts workers a history ≡ own_entries starts workers a other → (p : ℕ)
    → held_at x a p ≡ held_at y a p

-- what is in hand stays
abbrev pub HandsStay : Type 0
HandsStay = (starts : List Start) (workers drivers p a : ℕ) (raw : Option FilterCause) (c x : Core)
    (history rest : List Event) → AreBelow drivers starts → IsLegal starts workers drivers history c
    → IsLegal starts workers drivers (history ++ rest) x → own_entries starts workers a rest ≡ []
    → Holds c p a raw → Holds x p a raw

-- own entries decide
abbrev pub Decides : Type 0
Decides = (starts : List Start) (workers drivers a : ℕ) (history other : List Event) (x y : Core) (e : Event)
    → AreBelow drivers starts → IsLegal starts workers drivers history x → IsLegal starts workers drivers other y
    → actor_of starts workers e ≡ Some a
    → own_entries starts workers a history ≡ own_entries starts workers a other → is_claim e ≡ false
    → AlikeClaims (own_entries starts workers a history) x y e → is_step x e ≡ is_step y e

-- a turn keeps a seat
abbrev pub KeepsSeat : Type 0 → Type 0 → Type 0
KeepsSeat E D = (lock : TableId) (d : D) (number made : ℕ) (found : List (ℕ × E)) (s t : SeatView E D)
    → IsSeat lock d number made s → t ≡ entered found s → Within d number made (turns_of s + 1) found lock t
