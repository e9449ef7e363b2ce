-- The talk of a checkout with a driver that is a single run, whose sessions are served.
use Rattle.std.proofs.Common.{◌≡◌, ap, subst, if◌then◌else◌, ℕ, Bool, true, List}
use Rattle.edge_kit.specs.Links.{RunTold}
use Rattle.edge_kit.specs.Starters.{Starts}
use Rattle.edge_kit.specs.Told.{Told}
use Rattle.settings_view.specs.declared.view.Driver.{Driver}
use Rattle.checkout_core.specs.declared.event.Event.{Event}
use Rattle.checkout_core.specs.declared.verdict.Verdict.{Verdict}
use Rattle.driver_line.specs.SameHeard.{NoneWanting}
use Rattle.driver_line.specs.ToldStarts.{GoBy}
use Rattle.checkout_plan.specs.declared.path_plan.PathPlan.{PathPlan}
use Rattle.checkout_engine.specs.Complete.{HadMemory}
use Rattle.checkout_engine.specs.PlannedPaths.{AreSized}
use Rattle.checkout_paths.specs.Talks.{DriverTalk, IsDriverTalk}
use Rattle.one_shot.specs.Onces.{RunsListed}
use Rattle.one_shot.specs.Replies.{AreServed}
use Rattle.one_shot.specs.Starters.{is_single_run, single_starts}
use Rattle.one_shot.specs.Spawners.{commands_tell}
use Rattle.host_laws.specs.KeptTalks.{IsKeptTalk, KeptHeard, KeptHadMemory}
use Rattle.host_laws.specs.SingleRuns.{AreHeard}
use Rattle.host_laws.proofs.Rising.{apart}
use Rattle.host_laws.proofs.Sized.{are_paths}

single_told : (below : List ℕ → Starts) (runs : List RunTold) (command : List ℕ) → is_single_run command ≡ true
    → commands_tell below true (RunsListed runs) command ≡ single_starts true (RunsListed runs) command
single_told below runs command is = ap (λ (b : Bool). if b then single_starts true (RunsListed runs) command else below command) is

module _ (object : List ℕ → Told) (below : List ℕ → Starts) (runs : List RunTold) (ps : List PathPlan) (vs : List Verdict) (history : List Event)
    (d : ℕ) (x : Driver) (t : DriverTalk) (said : IsDriverTalk (commands_tell below true (RunsListed runs)) object ps vs history d x t)
    (single : is_single_run t.command ≡ true) (served : AreServed t.had) (sized : AreSized ps) where
  kept : IsKeptTalk runs t.command d t.paths t.asked t.had t.exchanges
  kept = record {
    names = are_paths object ps vs d t said.over sized;
    full = said.talk.full;
    fills = said.talk.fills;
    left = said.talk.left;
    starts = subst (λ (s : Starts). GoBy s said.talk.full said.talk.left) (single_told below runs t.command single) said.talk.starts;
    talk = said.talk.talk;
    served = served;
  }

  pub wants_none : KeptHadMemory → HadMemory d t → NoneWanting t.exchanges
  wants_none had memory = had runs t.command d t.paths t.asked t.had t.exchanges kept (apart t.asked said.over.rises) memory

  pub hears : KeptHeard → NoneWanting t.exchanges → AreHeard runs d t
  hears law wants n is = law runs t.command d t.paths t.asked t.had t.exchanges kept wants n is
