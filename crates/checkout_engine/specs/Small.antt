-- How large the run of a checkout can be.
use Rattle.std.specs.Prelude.{◌≤◌, ℕ, List, length}
use Rattle.std.specs.List.{AllByRecursion}
use Rattle.checkout_core.specs.declared.event.Event.{Event}
use Rattle.checkout_core.specs.declared.path.Start.{Start}
use Rattle.checkout_core.specs.States.{AreBelow}
use Rattle.checkout_plan.specs.Paths.{HasCause}
use Rattle.checkout_paths.specs.Workers.{starts_of}
use Rattle.checkout_engine.specs.declared.end.CheckoutRun.{CheckoutRun}

-- How it begins. Each path begins as in a plan: at the desk of one of the drivers, in the pool, or closed
-- with a cause that a plan gives.
pub record IsSmallStart (starts : List Start) (workers drivers : ℕ) : Type 0 where
  pub some_workers : 1 ≤ workers
  pub few_workers : workers ≤ 16
  pub few_drivers : drivers ≤ 16
  pub few_starts : length starts ≤ 100000
  pub desks : AreBelow drivers starts
  pub causes : AllByRecursion HasCause starts

-- and so few events happen
pub record IsSmallRun (starts : List Start) (workers drivers : ℕ) (history : List Event) : Type 0 where
  pub start : IsSmallStart starts workers drivers
  pub few_events : length history ≤ 900000

abbrev pub IsSmall : CheckoutRun → Type 0
IsSmall run = IsSmallRun (starts_of run.plan.paths) run.workers (length run.plan.drivers) run.history.items
