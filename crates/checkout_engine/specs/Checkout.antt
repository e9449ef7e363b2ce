-- What a checkout leaves, by how it ends.
use Rattle.std.specs.Prelude.{◌≡◌, ◌⊎◌, ℕ, List, [], length, Option, Some, None}
use Rattle.edge_kit.specs.Starters.{Starts}
use Rattle.edge_kit.specs.Told.{RepoTold}
use Rattle.checkout_core.specs.declared.event.Event.{Event}
use Rattle.checkout_paths.specs.Workers.{worker_count}
use Rattle.checkout_engine.specs.declared.end.Checkout.{Checkout}
use Rattle.checkout_engine.specs.declared.end.Checkout.TheVariants as ends
use Rattle.checkout_engine.specs.declared.end.CheckoutRun.{CheckoutRun}
use Rattle.checkout_engine.specs.Ends.{Seen, IsCheckedOut, verdicts_of, HasRefusal}
use Rattle.checkout_engine.specs.Small.{IsSmall}
use Rattle.checkout_engine.specs.Ends.{IsStopped, IsBrokenOff, IsReadFault, IsNotEmpty}

-- the events of the run that a checkout leaves, if it leaves one
abbrev pub history_of : Checkout → List Event
history_of (ends.Done run) = run.history.items
history_of ends.NotEmpty = []
history_of (ends.Refused r) = []
history_of ends.ReadFault = []
history_of ends.NoMemory = []

-- the same of a command, which may be no checkout
abbrev pub events_of : Option Checkout → List Event
events_of None = []
events_of (Some e) = history_of e

-- a run has a verdict for each path of its plan
abbrev pub HasVerdicts : Checkout → Type 0
HasVerdicts (ends.Done run) = length run.plan.paths ≡ length run.verdicts.items
HasVerdicts e = Unit {0}

-- And it is small: a journal can hold it.
pub record IsWholeRun (run : CheckoutRun) : Type 0 where
  pub verdicts : length run.plan.paths ≡ length run.verdicts.items
  pub small : IsSmall run

abbrev pub HasWholeRun : Checkout → Type 0
HasWholeRun (ends.Done run) = IsWholeRun run
HasWholeRun e = Unit {0}

abbrev pub AllWhole : Option Checkout → Type 0
AllWhole None = Unit {0}
AllWhole (Some e) = HasWholeRun e

-- This is the run of a checkout: its plan, as many workers as were asked for and its settings give, the verdicts of its
-- paths, and its history.
pub record IsRunOf {told : RepoTold} {ahead : List ℕ → Starts} {asked : Option ℕ} {old new : Seen}
    (c : IsCheckedOut told ahead asked old new) (run : CheckoutRun) : Type 0 where
  pub plan_is : run.plan ≡ c.plan
  pub workers_are : run.workers ≡ worker_count asked c.planned.settings c.plan.paths
  pub verdicts_are : run.verdicts.items ≡ verdicts_of c.outcomes
  pub history_is : run.history.items ≡ new.history

-- A checkout that is done leaves its run. Another one leaves no run, and this is why: the worktree wasn't empty, the
-- repository is refused for a cause, or a read failed, all before a file was touched; or memory ran out before that, or
-- before the paths were done.
abbrev pub Leaves : RepoTold → (List ℕ → Starts) → Option ℕ → Seen → Seen → Checkout → Type 0
Leaves told ahead asked old new (ends.Done run) = (c : IsCheckedOut told ahead asked old new) × IsRunOf c run
Leaves told ahead asked old new ends.NotEmpty = IsNotEmpty old new
Leaves told ahead asked old new (ends.Refused r) = HasRefusal told r old new
Leaves told ahead asked old new ends.ReadFault = IsReadFault told old new
Leaves told ahead asked old new ends.NoMemory = IsStopped told old new ⊎ IsBrokenOff told old new
