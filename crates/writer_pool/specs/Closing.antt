-- What a Close shows of a card, by who closed it: an actor that had the card from the book, or the desk of its driver.
use Rattle.std.specs.Prelude.{◌≡◌, ◌⊎◌, ◌<◌, ℕ, Bool, false, List, None, Some, slice_get}
use Rattle.edge_kit.specs.Seen.{BlobSeen, LeafSeen}
use Rattle.convert_plan.specs.Card.{CardSeen}
use Rattle.checkout_core.specs.declared.event.Event.{Event}
use Rattle.checkout_core.specs.declared.event.Event.TheVariants.{Claim, HandBack}
use Rattle.checkout_core.specs.declared.path.Heard.{Heard}
use Rattle.checkout_core.specs.declared.path.Heard.TheVariants.{Refused}
use Rattle.checkout_core.specs.declared.path.Start.{Start}
use Rattle.checkout_core.specs.declared.path.Start.TheVariants.{Pool, Desk}
use Rattle.checkout_core.specs.declared.verdict.FilterCause.{FilterCause}
use Rattle.checkout_core.specs.declared.verdict.Own.{Own}
use Rattle.checkout_core.specs.Fates.{Fate, Untold, Known, fate_of}
use Rattle.checkout_core.specs.Notes.{notes}
use Rattle.driver_desk.specs.Shown.{ShowsRead, ShowsUnread}
use Rattle.card_worker.specs.Writing.{WritesCard}

-- The actor of this place of the history had the card from the book: the path started in the pool, or the actor
-- claimed it before.
abbrev pub IsFromBook : List Start → List Event → ℕ → ℕ → ℕ → Type 0
IsFromBook starts history place p actor = (slice_get starts p ≡ Some Pool)
    ⊎ ((j : ℕ) × (j < place) × (slice_get history j ≡ Some (Claim p actor)))

-- The card never left the desk of its driver: the path starts there, and the actor of this place of the history didn't
-- claim it before.
pub record IsFromDesk (starts : List Start) (history : List Event) (place p actor d : ℕ) (required : Bool)
    : Type 0 where
  pub begun : slice_get starts p ≡ Some (Desk d required)
  pub unclaimed : (j : ℕ) → j < place → slice_get history j ≡ Some (Claim p actor) → ⊥

-- The driver of the desk at which the path starts isn't required, and refused the path, as its notes in the history
-- tell.
abbrev pub WasRefused : List Start → List Event → ℕ → ℕ → Bool → Type 0
WasRefused starts history p d required = (required ≡ false) × (why : FilterCause)
    × (fate_of p Untold (notes starts d history) ≡ Known (Refused why))

-- each path that was handed back was refused so
abbrev pub RefusedBacks : List Start → List Event → Type 0
RefusedBacks starts history = (i p d : ℕ) (required : Bool) → slice_get history i ≡ Some (HandBack p)
    → slice_get starts p ≡ Some (Desk d required) → WasRefused starts history p d required

-- the planned card as its desk closes it: with this blob and this leaf, and with nothing prepared
abbrev pub closed_card : CardSeen → BlobSeen → LeafSeen → CardSeen
closed_card planned blob leaf = record planned { blob = blob; leaf = leaf; ready = None }

-- How a card ends that its desk closes, by its own outcome and by what its driver told of its path: what is seen of its
-- blob and its leaf. Its object gave no content, or it was read and the driver told of it.
abbrev pub ServesCard : Bool → Fate → CardSeen → Own → BlobSeen → LeafSeen → Type 0
ServesCard required told card o blob leaf = ShowsUnread card o (closed_card card blob leaf)
    ⊎ ((h : Heard) × (told ≡ Known h) × ShowsRead required h card o (closed_card card blob leaf))

-- A card that never left its desk. The own outcome of its Close at this place of the history is how the desk served it,
-- by what the driver's notes in the history tell of the path.
pub record EndsAtDesk (starts : List Start) (history : List Event) (place p actor : ℕ) (o : Own) (card : CardSeen)
    (blob : BlobSeen) (leaf : LeafSeen) : Type 0 where
  pub driver : ℕ
  pub required : Bool
  pub desk : IsFromDesk starts history place p actor driver required
  pub serves : ServesCard required (fate_of p Untold (notes starts driver history)) card o blob leaf

-- How a card ended that was closed at this place of the history: its actor had it from the book, and the own outcome is
-- how the writing ended, or it never left its desk.
abbrev pub EndsCard : List Start → List Event → ℕ → ℕ → ℕ → Own → CardSeen → BlobSeen → LeafSeen → Type 0
EndsCard starts history place p actor o card blob leaf =
    (IsFromBook starts history place p actor × WritesCard card o blob leaf)
    ⊎ EndsAtDesk starts history place p actor o card blob leaf

-- a path that starts at a desk was refused by its driver, which isn't required
abbrev pub MayLeaveDesk : List Start → List Event → ℕ → Type 0
MayLeaveDesk starts history p = (d : ℕ) (required : Bool) → slice_get starts p ≡ Some (Desk d required)
    → WasRefused starts history p d required

-- How a card ended, by the whole history: it was written from the book, and a desk at which its path starts gave it up
-- because the driver refused it; or it never left its desk.
abbrev pub ClosesCard : List Start → List Event → ℕ → ℕ → ℕ → Own → CardSeen → BlobSeen → LeafSeen → Type 0
ClosesCard starts history place p actor o card blob leaf =
    (MayLeaveDesk starts history p × WritesCard card o blob leaf)
    ⊎ EndsAtDesk starts history place p actor o card blob leaf
