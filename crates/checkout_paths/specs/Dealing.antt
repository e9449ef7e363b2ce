-- What the desks of a checkout begin with.
use Rattle.std.specs.Prelude.{◌≡◌, ◌<◌, ◌^◌, ℕ, suc, List, [], ◌∷◌, length, Some}
use Rattle.std.specs.List.{AllByRecursion}
use Rattle.edge_kit.specs.Told.{Told}
use Rattle.edge_kit.specs.Starters.{Starts, StarterSeen, new_starter}
use Rattle.settings_view.specs.declared.view.Driver.{Driver}
use Rattle.checkout_book.specs.Reserving.{AreNew}
use Rattle.checkout_book.specs.Sights.{Sight}
use Rattle.checkout_plan.specs.declared.path_plan.PathPlan.{PathPlan}
use Rattle.writer_pool.specs.declared.pooled.DeskSeed.{DeskSeed}
use Rattle.writer_pool.specs.Pools.{seed_cards}
use Rattle.checkout_paths.specs.Cards.{AreCards, AreTexts, AreDrivers}

-- What is dealt from: not too many paths, each of which is text if it is open, and the drivers of its desks.
pub record IsWork (paths : List PathPlan) (drivers : List Driver) : Type 0 where
  pub few : length paths < 2 ^ 32
  pub texts : AreTexts paths
  pub drivers_are : AreDrivers drivers paths

-- a starter that has started nothing, and hasn't failed
abbrev pub IsIdle : StarterSeen → Type 0
IsIdle s = s ≡ new_starter s.command s.ahead

module _ {S B L : Type 0} (starter : S → StarterSeen) where
  abbrev pub AreIdle : List (DeskSeed S B L) → Type 0
  AreIdle [] = Unit {0}
  AreIdle (x ∷ xs) = IsIdle (starter x.starter) × AreIdle xs

-- The seeds weren't used: their cards are new, and their starters have started nothing.
pub record AreUnused {S B L : Type 0} (starter : S → StarterSeen) (see : Sight B L) (seeds : List (DeskSeed S B L))
    : Type 0 where
  pub new : AreNew see (seed_cards seeds)
  pub idle : AreIdle starter seeds

-- no link of any of the starters is out
abbrev pub AreEnded : {S : Type 0} → (S → StarterSeen) → List S → Type 0
AreEnded see starters = AllByRecursion (λ s. (see s).out ≡ 0) starters

module _ {S B L : Type 0} (starter : S → StarterSeen) (see : Sight B L) (ahead : List ℕ → Starts)
    (object : List ℕ → Told) (paths : List PathPlan) where
  -- The seed of the driver d: the new cards of its paths, and a new starter for its command.
  pub record IsSeedFor (d : ℕ) (driver : Driver) (seed : DeskSeed S B L) : Type 0 where
    pub required : seed.required ≡ driver.required
    pub command : List ℕ
    pub process : driver.process ≡ Some command
    pub starter_is : starter seed.starter ≡ new_starter command (ahead command)
    pub cards : AreCards (Some d) see object paths seed.cards.items

  -- the seeds of the drivers from d on, in their order
  abbrev pub AreSeedsFor : ℕ → List Driver → List (DeskSeed S B L) → Type 0
  AreSeedsFor d [] [] = Unit {0}
  AreSeedsFor d (x ∷ xs) (seed ∷ seeds) = IsSeedFor d x seed × AreSeedsFor (suc d) xs seeds
  AreSeedsFor d [] (seed ∷ seeds) = ⊥
  AreSeedsFor d (x ∷ xs) [] = ⊥
