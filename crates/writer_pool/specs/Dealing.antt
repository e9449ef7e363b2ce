-- The desks of a pool, made of their seeds, and the jobs that begin with them.
use Rattle.std.specs.Prelude.{◌<◌, ◌+◌, ◌^◌, ℕ, suc, List, [], ◌∷◌, map, length, Some}
use Rattle.std.specs.Global.{Vec}
use Rattle.delay_table.specs.Table.{IsRising, AreApart}
use Rattle.turn_lock.specs.Seat.{SeatView}
use Rattle.edge_kit.specs.Starters.{StarterSeen}
use Rattle.convert_plan.specs.declared.card.Card.{Card}
use Rattle.convert_plan.specs.Card.{CardSeen}
use Rattle.checkout_book.specs.declared.plan.BookPlan.{BookPlan}
use Rattle.checkout_book.specs.declared.plan.HistoryEntry.{HistoryEntry}
use Rattle.checkout_book.specs.Sights.{Sight, seen}
use Rattle.driver_desk.specs.Desks.{DeskView}
use Rattle.driver_desk.specs.Works.{AreNew, card_paths, card_texts}
use Rattle.writer_pool.specs.declared.pooled.DeskSeed.{DeskSeed}
use Rattle.writer_pool.specs.declared.desks.DeskHead.{DeskHead}
use Rattle.writer_pool.specs.declared.jobs.DeskJob.{DeskJob}
use Rattle.writer_pool.specs.declared.jobs.Job.{Job}

-- cards of which a desk can be made: new ones of different paths, whose texts rise
pub record IsDeck (cards : List CardSeen) : Type 0 where
  pub few : length cards < 2 ^ 32
  pub new : AreNew cards
  pub rising : IsRising (card_texts cards)
  pub apart : AreApart (card_paths cards)

-- what an actor's job is seen as
abbrev pub JobSeen : Type 0 → Type 0 → Type 0
JobSeen B L = Job (SeatView HistoryEntry (BookPlan B L)) (DeskJob DeskView)

-- a desk and its pass
abbrev pub desk_job : {B L : Type 0} → DeskView → SeatView HistoryEntry (BookPlan B L) → JobSeen B L
desk_job desk pass = record { pass = pass; desk = Some (record { required = desk.required; desk = desk }) }

module _ {B L : Type 0} (see : Sight B L) where
  -- a desk can be made of the cards of each
  abbrev pub AreDecks : List (Vec (Card B L)) → Type 0
  AreDecks [] = Unit {0}
  AreDecks (v ∷ vs) = IsDeck (map (λ c. seen see c) v.items) × AreDecks vs

module _ {S B L : Type 0} (starter : S → StarterSeen) (see : Sight B L) where
  -- the desk of the driver d
  abbrev pub desk_of : ℕ → ℕ → DeskHead S → List (Card B L) → DeskView
  desk_of workers d head cards = record {
    actor = workers + d;
    driver = d;
    required = head.required;
    starter = starter head.starter;
    cards = map (λ c. seen see c) cards;
  }

  -- the jobs of the desks from driver d on
  abbrev pub desk_jobs : ℕ → ℕ → List (DeskHead S) → List (SeatView HistoryEntry (BookPlan B L) × Vec (Card B L))
      → List (JobSeen B L)
  desk_jobs workers d (h ∷ hs) (x ∷ xs) = desk_job (desk_of workers d h x.1.items) x.0
      ∷ desk_jobs workers (suc d) hs xs
  desk_jobs _ _ _ _ = []

-- a seed without its cards
abbrev pub head_of : {S B L : Type 0} → DeskSeed S B L → DeskHead S
head_of seed = record { required = seed.required; starter = seed.starter }
