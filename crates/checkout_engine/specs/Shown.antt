-- How the command `plan` ends, and what holds at each end.
use Rattle.std.specs.Prelude.{◌≡◌, Result}
use Rattle.edge_kit.specs.Seen.{RepoSeen, SinkSeen}
use Rattle.edge_kit.specs.Told.{RepoTold}
use Rattle.exit_status.specs.declared.status.ExitStatus.{ExitStatus}
use Rattle.checkout_sources.specs.declared.planned.Planned.{Planned}
use Rattle.checkout_sources.specs.declared.stop.Stop.{Stop}
use Rattle.checkout_sources.specs.Reading.{ReadsPlan}
use Rattle.checkout_engine.specs.Ends.{Seen}
use Rattle.checkout_engine.specs.Said.{SaysPlan}

-- How the showing of a plan ends, with this status: the reading of the plan ended so, and that was said of it. If the plan
-- is shown whole, exactly the blobs of the attribute files were made and given back. It doesn't look at the worktree.
abbrev pub Shows : RepoTold → RepoSeen → RepoSeen → SinkSeen → SinkSeen → ExitStatus → Type 0
Shows told repo repo' sink sink' s =
    (planned : Result Planned Stop) × ReadsPlan told repo repo' planned × SaysPlan planned sink sink' s

-- The same for `run`: the worktree and the spawner don't change, and nothing is in the history.
pub record EndsPlan (told : RepoTold) (old new : Seen) (s : ExitStatus) : Type 0 where
  pub shown : Shows told old.repo new.repo old.sink new.sink s
  pub tree : new.tree ≡ old.tree
  pub spawner : new.spawner ≡ old.spawner
  pub history : new.history ≡ old.history
