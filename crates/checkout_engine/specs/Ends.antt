-- How a run of the command ends, and what holds at each end.
use Rattle.std.specs.Prelude.{◌≡◌, ◌≢◌, ◌⊎◌, ℕ, true, false, List, [], map, length, Option, Some, None}
use Rattle.std.specs.Prelude.{string_bytes, String}
use Rattle.std.specs.declared.alloc.Global.{Global}
use Rattle.std.specs.List.{filter_map}
use Rattle.edge_kit.specs.Faults.{Rose}
use Rattle.edge_kit.specs.Seen.{RepoSeen, TreeSeen, SinkSeen}
use Rattle.edge_kit.specs.Starters.{Starts, SpawnerSeen}
use Rattle.edge_kit.specs.Told.{RepoTold, Tells}
use Rattle.edge_kit.specs.declared.tree_file.TreeFile.{TreeFile}
use Rattle.checkout_core.specs.declared.event.Event.{Event}
use Rattle.checkout_core.specs.declared.verdict.Verdict.{Verdict}
use Rattle.writer_pool.specs.Ends.{IsRun}
use Rattle.checkout_words.specs.Words.{command_of}
use Rattle.checkout_words.specs.declared.Command.{Command}
use Rattle.checkout_words.specs.declared.Command.TheVariants as command
use Rattle.checkout_plan.specs.declared.path_plan.PathPlan.{PathPlan}
use Rattle.checkout_plan.specs.declared.path_plan.Plan.{Plan}
use Rattle.checkout_plan.specs.Making.{blobs_of}
use Rattle.checkout_sources.specs.declared.stop.Refusal.{Refusal}
use Rattle.checkout_sources.specs.Sources.{IsPlanned}
use Rattle.checkout_sources.specs.Causes.{IsReadCause, IsRepoSteady, IsRefusedFor, IsCutShort}
use Rattle.checkout_paths.specs.Outcome.{Outcome, AreOutcomes}
use Rattle.checkout_paths.specs.Talks.{DriverTalk, AreDriverTalks, with_talks}
use Rattle.checkout_paths.specs.Made.{BreaksOff}
use Rattle.checkout_paths.specs.Paths.{with_blobs, blobs_back, leaves_back, GotLeaves}
use Rattle.exit_status.specs.Output.{with_text}
use Rattle.checkout_paths.specs.Workers.{starts_of, worker_count}
use Rattle.run_report.specs.Rows.{report}
use Rattle.checkout_engine.specs.Report.{status_of}
use Rattle.exit_status.specs.Status.{number_of}
use Rattle.checkout_sources.specs.RefusalText.{refusal_line}

-- the command that the words give
abbrev pub asked : List (String Global) → Option Command
asked words = command_of (map string_bytes words)

-- whether the command is a checkout, or a plan
abbrev pub IsCheckout : Option Command → Type 0
IsCheckout (Some (command.Checkout workers)) = Unit {0}
IsCheckout c = ⊥

-- the number of workers that the words ask for, if they do
abbrev pub workers_asked : Option Command → Option ℕ
workers_asked (Some (command.Checkout workers)) = workers
workers_asked c = None

abbrev pub IsPlan : Option Command → Type 0
IsPlan (Some command.Plan) = Unit {0}
IsPlan c = ⊥

-- all that a run can change
pub record Seen : Type 0 where
  pub repo : RepoSeen
  pub tree : TreeSeen
  pub spawner : SpawnerSeen
  pub sink : SinkSeen
  pub history : List Event

abbrev pub seen : RepoSeen → TreeSeen → SpawnerSeen → SinkSeen → List Event → Seen
seen repo tree spawner sink history =
    record { repo = repo; tree = tree; spawner = spawner; sink = sink; history = history }

-- what is seen as a run begins: it empties the history first
abbrev pub begun : RepoSeen → TreeSeen → SpawnerSeen → SinkSeen → Seen
begun repo tree spawner sink = seen repo tree spawner sink []

abbrev pub verdicts_of : List Outcome → List Verdict
verdicts_of outcomes = map (λ o. o.verdict) outcomes

-- the files of the outcomes, in the order of the paths
abbrev pub files_of : List Outcome → List TreeFile
files_of outcomes = filter_map (λ o. o.file) outcomes

-- The worktree was empty. Each path of the plan has its outcome, and the worktree has the files of the outcomes and no
-- other. The blobs of the attribute files, none of which failed, then the blobs and the leaves of the paths, and then
-- the starters of the drivers were given back. There was a talk with each driver of the plan, which goes by what the
-- spawner told ahead of its command. The history is a complete run over the starts of the plan, with its drivers and
-- the number of workers that the words and the settings give, and its verdicts are those of the outcomes.
pub record IsCheckedOut (told : RepoTold) (ahead : List ℕ → Starts) (asked : Option ℕ) (old new : Seen) : Type 0 where
  pub empty : Tells old.tree.empty true
  pub plan : Plan
  pub planned : IsPlanned told plan
  pub talks : List DriverTalk
  pub outcomes : List Outcome
  pub verdicts : AreOutcomes told.object talks 0 plan.paths outcomes
  pub conversations : AreDriverTalks ahead told.object plan.paths (verdicts_of outcomes) new.history 0 plan.drivers
      talks
  pub files : Tells new.tree.files (files_of outcomes)
  pub blobs : new.repo ≡ with_blobs (with_blobs old.repo (blobs_of planned.entries))
      (blobs_back plan.paths outcomes)
  pub leaves : GotLeaves old.tree (leaves_back plan.paths outcomes) new.tree
  pub starters : new.spawner ≡ with_talks old.spawner talks
  pub run : IsRun (starts_of plan.paths) (worker_count asked planned.settings plan.paths) (length plan.drivers)
      new.history (verdicts_of outcomes)

-- The report has a line for each path, in order, with its verdict, and the number is that of the
-- verdicts: 0, or 1 if some path failed.
pub record IsReported (paths : List PathPlan) (verdicts : List Verdict) (old new : SinkSeen)
    (number : ℕ) : Type 0 where
  pub report : new ≡ with_text (report paths verdicts) old
  pub status : number ≡ number_of (status_of verdicts)

-- Neither the repository nor the worktree nor a blob has failed.
pub record IsSteady (old new : Seen) : Type 0 where
  pub repo : IsRepoSteady old.repo new.repo
  pub tree : new.tree.faults ≡ old.tree.faults

-- No leaf and no starter was made, no file was touched, and nothing is in the history.
pub record IsUntouched (old new : Seen) : Type 0 where
  pub tree : new.tree ≡ record old.tree { faults = new.tree.faults }
  pub spawner : new.spawner ≡ old.spawner
  pub history : new.history ≡ old.history

-- The worktree was empty, and the repository is refused for this cause before a file is touched. Just
-- the blobs of the attribute files up to the refused one were made and given back.
pub record HasRefusal (told : RepoTold) (refusal : Refusal) (old new : Seen) : Type 0 where
  pub empty : Tells old.tree.empty true
  pub refused : IsRefusedFor told refusal old.repo new.repo
  pub untouched : IsUntouched old new
  pub steady : IsSteady old new

-- 3: the repository is refused, and the line says why.
abbrev pub IsRefused : RepoTold → Seen → Seen → Type 0
IsRefused told old new =
    (refusal : Refusal) × HasRefusal told refusal old new
    × (new.sink ≡ with_text (refusal_line refusal) old.sink)

-- Memory ran out once the plan was read and before the paths were done. What was made is back, unused, or all of it is
-- out.
pub record IsBrokenOff (told : RepoTold) (old new : Seen) : Type 0 where
  pub empty : Tells old.tree.empty true
  pub plan : Plan
  pub planned : IsPlanned told plan
  pub made : BreaksOff plan.paths plan.drivers (with_blobs old.repo (blobs_of planned.entries)) new.repo
      old.tree new.tree old.spawner new.spawner
  pub history : new.history ≡ old.history

-- Memory ran out before any leaf or starter was made. The blobs of the first attribute files may have been made and
-- given back.
pub record IsStopped (told : RepoTold) (old new : Seen) : Type 0 where
  pub untouched : IsUntouched old new
  pub repo : IsCutShort told old.repo new.repo
  pub steady : IsSteady old new

-- 6: the worktree or a read of the repository failed, and nothing else, before a file was touched.
pub record IsReadFault (told : RepoTold) (old new : Seen) : Type 0 where
  pub cause : (Rose old.tree.faults new.tree.faults × (new.repo ≡ old.repo))
      ⊎ (Tells old.tree.empty true × (new.tree.faults ≡ old.tree.faults)
      × IsReadCause told old.repo new.repo)
  pub untouched : IsUntouched old new
  pub silent : new.sink ≡ old.sink

-- 7: the worktree wasn't empty, and nothing at all was done.
abbrev pub IsNotEmpty : Seen → Seen → Type 0
IsNotEmpty old new = Tells old.tree.empty false × (new ≡ old)

-- words that are not a command, and no others, end with 2, unless memory ran out
abbrev pub IsUsage : Option Command → ℕ → Type 0
IsUsage None number = (number ≡ 2) ⊎ (number ≡ 5)
IsUsage (Some c) number = number ≢ 2
