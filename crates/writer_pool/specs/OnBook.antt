-- The recorder over a book: for whom it stands and what it was given, as its pass tells.
use Rattle.std.specs.Prelude.{◌≡◌, ◌==◌, ℕ, ◌-◌, ◌≤◌, Bool, false, cond, List, [], ◌∷◌, map, slice_get}
use Rattle.std.specs.Prelude.{Option, Some, None}
use Rattle.std.specs.Global.{Vec}
use Rattle.atomic_table.specs.Seated.{TableId}
use Rattle.turn_lock.specs.Seat.{SeatView, mine_of, told_of, number_of, made_of}
use Rattle.convert_plan.specs.declared.card.Card.{Card}
use Rattle.convert_plan.specs.Card.{CardSeen}
use Rattle.checkout_core.specs.declared.event.Event.{Event}
use Rattle.checkout_core.specs.declared.event.Event.TheVariants.{Close, HandBack}
use Rattle.checkout_core.specs.declared.verdict.Own.{Own}
use Rattle.checkout_core.specs.declared.path.Start.{Start}
use Rattle.checkout_core.specs.Actors.{driver_at}
use Rattle.checkout_core.specs.Hands.{held_at}
use Rattle.checkout_core.specs.States.{Core}
use Rattle.checkout_book.specs.declared.plan.BookPlan.{BookPlan}
use Rattle.checkout_book.specs.declared.plan.Parts.{Parts}
use Rattle.checkout_book.specs.declared.plan.HistoryEntry.{HistoryEntry}
use Rattle.checkout_book.specs.Sights.{Sight, seen}
use Rattle.checkout_book.specs.Passes.{IsPass}
use Rattle.checkout_book.specs.Reserving.{AreDealt}
use Rattle.driver_desk.specs.Recorders.{Standing, RecorderSeen}
use Rattle.driver_desk.specs.Serving.{Given, Noted, Closed, HandedBack}
use Rattle.writer_pool.specs.Closing.{closed_card}
use Rattle.card_worker.specs.Working.{blob_in, leaf_in}

-- the first card of this path
abbrev pub card_of : ℕ → List CardSeen → Option CardSeen
card_of p [] = None
card_of p (c ∷ cs) = cond (c.path == p) (Some c) (card_of p cs)

abbrev pub closed_by : Event → Own → Parts → Option CardSeen → Given
closed_by e o x None = Noted e
closed_by e o x (Some card) = Closed o (closed_card card (blob_in x) (leaf_in x))

-- an entry of the pass's own list, as what was given
abbrev pub given_by : List CardSeen → Event → Option Parts → Given
given_by cards (Close p a o) (Some x) = closed_by (Close p a o) o x (card_of p cards)
given_by cards (HandBack p) x = HandedBack p
given_by cards e x = Noted e

abbrev pub given_in : List CardSeen → List HistoryEntry → List Given
given_in cards es = map (λ e. given_by cards e.event e.parts) es

-- each path that these entries close is the driver's, and they tell what is seen of its blob and its leaf
abbrev pub ClosesOwn : List Start → ℕ → Event → Option Parts → Type 0
ClosesOwn starts d (Close p a o) (Some x) = driver_at starts p ≡ Some d
ClosesOwn starts d (Close p a o) None = ⊥
ClosesOwn starts d e x = Unit {0}

abbrev pub CloseOwn : List Start → ℕ → List HistoryEntry → Type 0
CloseOwn starts d [] = Unit {0}
CloseOwn starts d (e ∷ es) = ClosesOwn starts d e.event e.parts × CloseOwn starts d es

-- the pass, and whether its driver is required
pub record Recording (B L : Type 0) : Type 0 where
  pub pass : SeatView HistoryEntry (BookPlan B L)
  pub required : Bool

-- what no call changes: the lock, the plan and the numbers of the pass
pub record Place (B L : Type 0) : Type 0 where
  pub lock : TableId
  pub plan : Option (BookPlan B L)
  pub number : ℕ
  pub made : ℕ

module _ {B L : Type 0} where
  abbrev pub place_of : Recording B L → Place B L
  place_of r = record { lock = r.pass.lock; plan = told_of r.pass; number = number_of r.pass; made = made_of r.pass }

  abbrev pub items_of : Option (Vec (Card B L)) → List (Card B L)
  items_of None = []
  items_of (Some v) = v.items

  -- the planned cards of a driver
  abbrev pub desk_cards : BookPlan B L → ℕ → List (Card B L)
  desk_cards d q = items_of (slice_get d.desks.items q)

  -- The pass of a desk, which isn't inside. Its book deals each driver the cards of the driver's paths. It has nothing
  -- in hand, and each path that it closed is its driver's.
  pub record IsDeskPass (lock : TableId) (s : SeatView HistoryEntry (BookPlan B L)) : Type 0 where
    pub plan : BookPlan B L
    pub made : ℕ
    pub core : Core
    pub pass : IsPass lock plan (number_of s) made s core
    pub desk : plan.workers ≤ number_of s
    pub dealt : AreDealt plan.starts.items 0 plan.desks.items
    pub hands : (q : ℕ) → held_at core (number_of s) q ≡ false
    pub own : CloseOwn plan.starts.items (number_of s - plan.workers) (mine_of s)

module _ {B L : Type 0} (see : Sight B L) where
  -- the desks come after the workers
  abbrev pub standing_at : Option (BookPlan B L) → ℕ → Bool → Standing
  standing_at None n required = record {
    starts = [];
    workers = 0;
    drivers = 0;
    driver = n;
    required = required;
    cards = [];
  }
  standing_at (Some d) n required = record {
    starts = d.starts.items;
    workers = d.workers;
    drivers = d.drivers;
    driver = n - d.workers;
    required = required;
    cards = map (λ c. seen see c) (desk_cards d (n - d.workers));
  }

  abbrev pub standing_of : Recording B L → Standing
  standing_of r = standing_at (told_of r.pass) (number_of r.pass) r.required

  abbrev pub given_of : Recording B L → List Given
  given_of r = given_in (standing_of r).cards (mine_of r.pass)

  -- what is seen of it as a recorder
  abbrev pub recorder_of : Recording B L → RecorderSeen (Place B L)
  recorder_of r = record { standing = standing_of r; given = given_of r; fixed = place_of r }
