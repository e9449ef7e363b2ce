-- What a checkout needs to be done as a whole if its driver is a command, which runs once for each content.
use Rattle.std.specs.Prelude.{◌≡◌, ◌≤◌, ℕ, true, false, List, length, drop, Some, slice_get}
use Rattle.filter_words.specs.Outcomes.{limit}
use Rattle.filter_words.specs.Requests.{first_text}
use Rattle.edge_kit.specs.Links.{RunTold}
use Rattle.edge_kit.specs.Starters.{Had, Starts}
use Rattle.edge_kit.specs.Told.{Told}
use Rattle.tree_encoding.specs.declared.prepared.Prepared.{Prepared}
use Rattle.settings_view.specs.declared.view.Driver.{Driver}
use Rattle.checkout_core.specs.States.{is_at}
use Rattle.checkout_plan.specs.declared.path_plan.PathPlan.{PathPlan}
use Rattle.checkout_engine.specs.Complete.{TalksGiveAll}
use Rattle.checkout_paths.specs.Prepared.{IsPreparedTo}
use Rattle.one_shot.specs.Commands.{once_command}
use Rattle.one_shot.specs.Onces.{OnceTold, Ended, RunsListed, told_of}
use Rattle.one_shot.specs.Works.{most_output}
use Rattle.one_shot.specs.Starters.{is_single_run}
use Rattle.one_shot.specs.Spawners.{commands_tell, AllServed}

-- the request is within the limit, and the run is told to end well with an output within its limit
pub record EndsWell (run : OnceTold) (request : List ℕ) : Type 0 where
  pub fits : length request ≤ limit
  pub output : List ℕ
  pub told : run ≡ Ended output true
  pub short : length output ≤ most_output

-- The driver is a command whose run ends well for each of its paths, with what the path's object is prepared to.
pub record RunsGiveAll (object : List ℕ → Told) (runs : List RunTold) (ps : List PathPlan) (d : ℕ) (driver : Driver)
    : Type 0 where
  pub command : List ℕ
  pub process : driver.process ≡ Some command
  pub single : is_single_run command ≡ true
  pub well : (n : ℕ) (p : PathPlan) (ready : Prepared) → slice_get ps n ≡ Some p → is_at d p.start ≡ true
      → IsPreparedTo (object p.object) p ready
      → EndsWell (told_of (RunsListed runs) (once_command (drop 1 command) p.path) ready.bytes)
      (first_text p.path p.object false ready.bytes)

-- Over a spawner of single runs that keeps their sessions and tells the runs, of which the sessions that were given
-- back tell nothing false, each talk with such a driver gives all its paths.
abbrev pub SingleRunsGiveAll : Type 0
SingleRunsGiveAll = (object : List ℕ → Told) (below : List ℕ → Starts) (runs : List RunTold)
    (back : List (List ℕ × List Had)) (ps : List PathPlan) (d : ℕ) (driver : Driver) → AllServed back
    → RunsGiveAll object runs ps d driver
    → TalksGiveAll object (commands_tell below true (RunsListed runs)) back ps d driver
