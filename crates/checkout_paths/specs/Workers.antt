-- How many workers a checkout has.
use Rattle.std.specs.Prelude.{◌≡◌, ℕ, ◌≤◌, ◌<◌, nat_lt, Bool, true, false, List, map, length, Option}
use Rattle.std.specs.Prelude.{Some, None, slice_get, if◌then◌else◌}
use Rattle.std.specs.List.{filter}
use Rattle.std.specs.Option.{unwrap_or}
use Rattle.checkout_core.specs.declared.path.Start.{Start}
use Rattle.checkout_core.specs.declared.path.Start.TheVariants as start
use Rattle.checkout_core.specs.declared.event.Event.{Event}
use Rattle.checkout_core.specs.Actors.{actor_of}
use Rattle.checkout_plan.specs.declared.path_plan.PathPlan.{PathPlan}
use Rattle.settings_view.specs.declared.view.Settings.{Settings}
use Rattle.checkout_paths.specs.declared.workers.Pace.{Pace}

-- how each path starts
abbrev pub starts_of : List PathPlan → List Start
starts_of paths = map (λ p. p.start) paths

-- whether a path starts in the pool
abbrev pub is_pool : Start → Bool
is_pool start.Pool = true
is_pool s = false

abbrev pub in_pool : PathPlan → Bool
in_pool p = is_pool p.start

-- One worker if fewer cards are in the pool than the threshold. Otherwise as many as the words ask for, or as the
-- settings say.
abbrev pub workers_for : Option ℕ → ℕ → ℕ → ℕ → ℕ
workers_for asked workers threshold cards = if nat_lt cards threshold then 1 else unwrap_or asked workers

-- the same for the paths of a plan
abbrev pub worker_count : Option ℕ → Settings → List PathPlan → ℕ
worker_count asked settings paths =
    workers_for asked settings.workers settings.threshold (length (filter in_pool paths))

-- Whoever made an entry of the history has a number below this one. Worker w is actor w, and the desk of driver d comes
-- after the workers.
abbrev pub HaveActorsBelow : ℕ → List Start → ℕ → List Event → Type 0
HaveActorsBelow number starts workers history =
    (k a : ℕ) (e : Event) → slice_get history k ≡ Some e → actor_of starts workers e ≡ Some a → a < number

-- words that ask for workers ask for 1 to 16
abbrev pub IsAsked : Option ℕ → Type 0
IsAsked None = Unit {0}
IsAsked (Some n) = (1 ≤ n) × (n ≤ 16)

-- both numbers of workers are 1 to 16
pub record IsPace (pace : Pace) : Type 0 where
  pub asked : IsAsked pace.asked
  pub some : 1 ≤ pace.workers
  pub few : pace.workers ≤ 16
