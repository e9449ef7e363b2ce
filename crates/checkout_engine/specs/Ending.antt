-- What the parts of a run promise each other about its end.
use Rattle.std.specs.Prelude.{◌≡◌, ◌⊎◌, true, false, List}
use Rattle.std.specs.Prelude.{ℕ, Option, Some, None, Result, Ok, Err}
use Rattle.edge_kit.specs.Faults.{Rose}
use Rattle.edge_kit.specs.Seen.{RepoSeen, TreeSeen}
use Rattle.edge_kit.specs.Starters.{Starts, SpawnerSeen}
use Rattle.edge_kit.specs.Told.{Told, RepoTold, Tells}
use Rattle.checkout_words.specs.declared.Command.{Command}
use Rattle.checkout_words.specs.declared.Command.TheVariants as command
use Rattle.checkout_paths.specs.declared.workers.Pace.{Pace}
use Rattle.checkout_paths.specs.Writing.{ArePathsDone, IsRunAt}
use Rattle.checkout_sources.specs.Reading.{IsRead}
use Rattle.checkout_sources.specs.declared.planned.Planned.{Planned}
use Rattle.checkout_sources.specs.declared.stop.Stop.TheVariants as stop
use Rattle.checkout_sources.specs.Causes.{IsReadCause, IsRefusedFor, IsCutShort}
use Rattle.checkout_engine.specs.declared.steps.PacedPlan.{PacedPlan}
use Rattle.checkout_engine.specs.declared.end.Checkout.{Checkout}
use Rattle.checkout_engine.specs.declared.end.Checkout.TheVariants as ends
use Rattle.checkout_engine.specs.declared.end.CheckoutRun.{CheckoutRun}
use Rattle.checkout_engine.specs.declared.halt.Halt.{Halt}
use Rattle.checkout_engine.specs.declared.halt.Halt.TheVariants as halt
use Rattle.exit_status.specs.declared.status.ExitStatus.{ExitStatus}
use Rattle.exit_status.specs.declared.status.ExitStatus.TheVariants as status
use Rattle.checkout_engine.specs.Commands.{EndsWith, before_said}
use Rattle.checkout_engine.specs.Complete.{Finishes}
use Rattle.checkout_engine.specs.Ends.{Seen}
use Rattle.checkout_engine.specs.Headline.{LeavesHeadline}
use Rattle.checkout_engine.specs.Shown.{EndsPlan}
use Rattle.checkout_engine.specs.Rehearsed.{EndsRehearsal}

-- why a run stops at the worktree
abbrev pub StopsTree : {T : Type 0} → TreeSeen → TreeSeen → Result T Halt → Type 0
StopsTree old new (Ok x) = Tells old.empty true × (new.faults ≡ old.faults)
StopsTree old new (Err halt.NotEmpty) = Tells old.empty false × (new.faults ≡ old.faults)
StopsTree old new (Err (halt.Stop stop.ReadFault)) = Rose old.faults new.faults
StopsTree old new (Err (halt.Stop (stop.Refused r))) = ⊥
StopsTree old new (Err (halt.Stop stop.NoMemory)) = ⊥

-- why a checkout stops before it touches a file
abbrev pub StopsRun : RepoTold → TreeSeen → TreeSeen → RepoSeen → RepoSeen → Result Planned Halt
    → Type 0
StopsRun told tree tree' old new (Ok r) =
    Tells tree.empty true × (tree'.faults ≡ tree.faults)
    × IsRead told r old new
StopsRun told tree tree' old new (Err halt.NotEmpty) =
    Tells tree.empty false × (tree'.faults ≡ tree.faults) × (new ≡ old)
StopsRun told tree tree' old new (Err (halt.Stop stop.ReadFault)) =
    (Rose tree.faults tree'.faults × (new ≡ old))
    ⊎ (Tells tree.empty true × (tree'.faults ≡ tree.faults) × IsReadCause told old new)
StopsRun told tree tree' old new (Err (halt.Stop (stop.Refused r))) =
    Tells tree.empty true × IsRefusedFor told r old new × (tree'.faults ≡ tree.faults)
StopsRun told tree tree' old new (Err (halt.Stop stop.NoMemory)) =
    (tree'.faults ≡ tree.faults) × IsCutShort told old new

-- how a checkout ends that stopped before it touched a file
abbrev pub halted : Halt → Checkout
halted halt.NotEmpty = ends.NotEmpty
halted (halt.Stop (stop.Refused r)) = ends.Refused r
halted (halt.Stop stop.ReadFault) = ends.ReadFault
halted (halt.Stop stop.NoMemory) = ends.NoMemory

-- how many workers are asked for, and what the settings of a plan say of them
abbrev pub pace_of : PacedPlan → Pace
pace_of paced =
    record { asked = paced.asked; workers = paced.planned.workers; threshold = paced.planned.threshold }

-- The paths of a plan that was read are done, and this is their run.
pub record IsRunOver (ahead : List ℕ → Starts) (object : List ℕ → Told) (paced : PacedPlan) (run : CheckoutRun)
    (repo repo' : RepoSeen) (tree tree' : TreeSeen) (spawner spawner' : SpawnerSeen) : Type 0 where
  pub plan_is : run.plan ≡ paced.planned.plan
  pub done : let plan = paced.planned.plan in
      ArePathsDone ahead object plan.paths plan.drivers run.verdicts.items run.history.items
      repo repo' tree tree' spawner spawner'
  pub at_pace : let plan = paced.planned.plan in
      IsRunAt (pace_of paced) plan.paths plan.drivers run.workers run.history.items run.verdicts.items

-- how the command of a checkout ends: as the checkout does, which has its headline, and is finished if it has all that it
-- needs
pub record EndsCheckout (told : RepoTold) (ahead : List ℕ → Starts) (asked : Option ℕ) (old new : Seen)
    (s : ExitStatus) : Type 0 where
  pub so : EndsWith told ahead asked old new s
  pub headline : LeavesHeadline told ahead asked old (before_said old new so.end) so.end
  pub complete : Finishes told ahead old (before_said old new so.end) so.end

-- how words end that are not a command: nothing at all was done
pub record EndsUnasked (old new : Seen) (s : ExitStatus) : Type 0 where
  pub is : (s ≡ status.Usage) ⊎ (s ≡ status.OutOfMemory)
  pub same : new ≡ old

-- how a run ends with these words
abbrev pub Ends : Option Command → RepoTold → (List ℕ → Starts) → Seen → Seen → ExitStatus → Type 0
Ends None told ahead old new s = EndsUnasked old new s
Ends (Some (command.Checkout workers)) told ahead old new s = EndsCheckout told ahead workers old new s
Ends (Some command.Plan) told ahead old new s = EndsPlan told old new s
Ends (Some (command.Rehearse seed paths)) told ahead old new s = EndsRehearsal seed paths old new s
