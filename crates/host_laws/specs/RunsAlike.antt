-- What two checkouts have in common over spawners of single runs, whatever the number of their workers.
use Rattle.std.specs.Prelude.{◌≡◌, ◌⊎◌, ℕ, true, false, List, Option}
use Rattle.edge_kit.specs.Links.{RunTold}
use Rattle.edge_kit.specs.Starters.{Starts}
use Rattle.edge_kit.specs.Told.{RepoTold}
use Rattle.checkout_engine.specs.Alike.{RepoTellsAll, DifferInWorkers, IsUndisturbed, AreAlike, AreListed}
use Rattle.checkout_engine.specs.Ends.{Seen, IsCheckedOut}
use Rattle.one_shot.specs.Onces.{RunsListed}
use Rattle.one_shot.specs.Starters.{is_single_run}
use Rattle.one_shot.specs.Spawners.{commands_tell, AllServed}

-- A repository tells all, and a spawner below tells one by one the starts of each command that isn't a single run.
pub record TellAllBelow (told : RepoTold) (below : List ℕ → Starts) : Type 0 where
  pub repo : RepoTellsAll told
  pub starts : (command : List ℕ) → is_single_run command ≡ false → AreListed (below command)

-- Two checkouts of one repository that tells all, or of two that differ in the number of workers and the threshold
-- alone, over spawners that tell the same runs and starts and keep the runs' sessions, of which the sessions that were
-- given back tell nothing false. They are alike if neither was disturbed, whatever the numbers of workers that are
-- asked for.
abbrev pub RunsChangeNothing : Type 0
RunsChangeNothing = (told told' : RepoTold) (below : List ℕ → Starts) (runs : List RunTold) (a b : Option ℕ)
    (old new before after : Seen) → TellAllBelow told below → (told' ≡ told) ⊎ DifferInWorkers told told'
    → (c : IsCheckedOut told (commands_tell below true (RunsListed runs)) a old new)
    → (e : IsCheckedOut told' (commands_tell below true (RunsListed runs)) b before after)
    → AllServed new.spawner.returned → AllServed after.spawner.returned
    → IsUndisturbed c → IsUndisturbed e → AreAlike c e
