-- What becomes of the paths of a checkout whose driver is a command, which runs once for each content.
use Rattle.std.specs.Prelude.{◌≡◌, ◌⊎◌, ◌<◌, ◌≤◌, ℕ, true, false, List, length, drop, Option, Some, slice_get}
use Rattle.filter_words.specs.Outcomes.{limit}
use Rattle.filter_words.specs.declared.reply.BreakCause.TheVariants as broken
use Rattle.edge_kit.specs.Links.{RunTold}
use Rattle.edge_kit.specs.Starters.{Starts, SpawnerSeen}
use Rattle.edge_kit.specs.Told.{RepoTold}
use Rattle.edge_kit.specs.declared.tree_file.TreeFile.{TreeFile}
use Rattle.delay_table.specs.Table.{contains}
use Rattle.checkout_core.specs.States.{is_at}
use Rattle.checkout_core.specs.declared.verdict.Verdict.{Verdict}
use Rattle.checkout_core.specs.declared.verdict.Verdict.TheVariants as verdict
use Rattle.checkout_core.specs.declared.verdict.FailCause.TheVariants as fail
use Rattle.checkout_core.specs.declared.verdict.FilterCause.{FilterCause}
use Rattle.checkout_core.specs.declared.verdict.FilterCause.TheVariants as refusal
use Rattle.driver_line.specs.SameHeard.{NoneWanting, fate_in, content_of}
use Rattle.driver_host.specs.declared.work.Choice.TheVariants as choice
use Rattle.checkout_plan.specs.declared.path_plan.PathPlan.{PathPlan}
use Rattle.checkout_engine.specs.Ends.{Seen, IsCheckedOut, verdicts_of}
use Rattle.checkout_paths.specs.Outcome.{Outcome, file_with}
use Rattle.checkout_engine.specs.Report.{lacks_memory}
use Rattle.checkout_paths.specs.Talks.{DriverTalk}
use Rattle.one_shot.specs.Onces.{OnceTold, RunsListed}
use Rattle.one_shot.specs.Works.{choice_told}
use Rattle.one_shot.specs.Starters.{is_single_run}
use Rattle.one_shot.specs.Spawners.{commands_tell, AllServed}
use Rattle.host_laws.specs.OnceTalks.{IsHeardOf, run_of, once_request}

-- the told run for a path of a talk
abbrev pub run_at : List RunTold → DriverTalk → ℕ → OnceTold
run_at runs t n = run_of (RunsListed runs) (drop 1 t.command) t.paths n

-- each path of the talk hears what its run gave
abbrev pub AreHeard : List RunTold → ℕ → DriverTalk → Type 0
AreHeard runs d t = (n : ℕ) → contains n t.asked ≡ true
    → IsHeardOf (run_at runs t n) (once_request t.paths n) (fate_in d n t.exchanges) (content_of n t.exchanges)

-- The file of a path is the output that its run gave.
pub record IsOutput (run : OnceTold) (request : List ℕ) (p : PathPlan) (left : Option TreeFile) : Type 0 where
  pub output : List ℕ
  pub fits : length request ≤ limit
  pub gave : choice_told run ≡ Some (choice.Give output)
  pub file : left ≡ Some (file_with p output)

-- a path is refused since its request is over the limit, or with an error since its run gave no output
abbrev pub IsRefusedFor : OnceTold → List ℕ → FilterCause → Type 0
IsRefusedFor run request why =
    ((limit < length request) × (why ≡ refusal.Broken broken.Ended))
    ⊎ ((length request ≤ limit) × (choice_told run ≡ Some choice.Refuse) × (why ≡ refusal.Error))

-- What the verdict of a path says of its run. No path is lost.
abbrev pub EndsBy : OnceTold → List ℕ → PathPlan → Option TreeFile → Verdict → Type 0
EndsBy run request p file (verdict.Written unencoded) = IsOutput run request p file
EndsBy run request p file (verdict.Unfiltered why unencoded) = IsRefusedFor run request why
EndsBy run request p file (verdict.Failed (fail.Filter why)) = IsRefusedFor run request why
EndsBy run request p file (verdict.Failed fail.Missing) = ⊥
EndsBy run request p file v = Unit {0}

-- so each path of the driver d ends
abbrev pub AreEnded : List RunTold → List PathPlan → List Outcome → ℕ → DriverTalk → Type 0
AreEnded runs ps outcomes d t = (n : ℕ) (p : PathPlan) (o : Outcome) → slice_get ps n ≡ Some p
    → slice_get outcomes n ≡ Some o → is_at d p.start ≡ true
    → EndsBy (run_at runs t n) (once_request t.paths n) p o.file o.verdict

-- A checkout over a spawner of single runs that keeps their sessions and tells the runs, of which the sessions that
-- were given back tell nothing false. So is each path of a driver heard that is a single run, and so it ends, if memory
-- was left for each path of the checkout, or never ran out in the talk.
abbrev pub SingleRunsAreHeard : Type 0
SingleRunsAreHeard = (told : RepoTold) (below : List ℕ → Starts) (runs : List RunTold) (asked : Option ℕ)
    (old new : Seen) → (c : IsCheckedOut told (commands_tell below true (RunsListed runs)) asked old new)
    → AllServed new.spawner.returned → (d : ℕ) (t : DriverTalk) → slice_get c.talks d ≡ Some t
    → is_single_run t.command ≡ true
    → (lacks_memory (verdicts_of c.outcomes) ≡ false) ⊎ NoneWanting t.exchanges
    → AreHeard runs d t × AreEnded runs c.plan.paths c.outcomes d t

-- The same of a checkout that told its drivers' starts so, and left its spawner so.
abbrev pub OwnRunsAreHeard : (List ℕ → Starts) → SpawnerSeen → Type 0
OwnRunsAreHeard ahead left = (told : RepoTold) (below : List ℕ → Starts) (runs : List RunTold) (asked : Option ℕ)
    (old new : Seen) → ahead ≡ commands_tell below true (RunsListed runs) → new.spawner ≡ left
    → (c : IsCheckedOut told ahead asked old new) → (d : ℕ) (t : DriverTalk) → slice_get c.talks d ≡ Some t
    → is_single_run t.command ≡ true
    → (lacks_memory (verdicts_of c.outcomes) ≡ false) ⊎ NoneWanting t.exchanges
    → AreHeard runs d t × AreEnded runs c.plan.paths c.outcomes d t
