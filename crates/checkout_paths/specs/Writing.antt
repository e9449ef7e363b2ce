-- What the writing of the paths leaves.
use Rattle.std.specs.Prelude.{◌≡◌, ℕ, List, [], ◌∷◌, Option, Some, None, length, map}
use Rattle.std.specs.List.{filter}
use Rattle.edge_kit.specs.Told.{Told, Tells}
use Rattle.edge_kit.specs.Files.{with_file}
use Rattle.edge_kit.specs.Seen.{RepoSeen, TreeSeen}
use Rattle.edge_kit.specs.Starters.{Starts, SpawnerSeen}
use Rattle.edge_kit.specs.declared.tree_file.TreeFile.{TreeFile}
use Rattle.checkout_core.specs.declared.event.Event.{Event}
use Rattle.checkout_core.specs.declared.verdict.Verdict.{Verdict}
use Rattle.settings_view.specs.declared.view.Driver.{Driver}
use Rattle.checkout_plan.specs.declared.path_plan.PathPlan.{PathPlan}
use Rattle.writer_pool.specs.Ends.{IsRun}
use Rattle.checkout_paths.specs.declared.workers.Pace.{Pace}
use Rattle.checkout_paths.specs.Workers.{starts_of, in_pool, workers_for}
use Rattle.checkout_paths.specs.Outcome.{Outcome, AreOutcomes}
use Rattle.checkout_paths.specs.Talks.{DriverTalk, AreDriverTalks, with_talks}
use Rattle.checkout_paths.specs.Paths.{with_blobs, GotLeaves, blobs_back, leaves_back}

-- the files with one more, if there is one
abbrev pub joined : Option TreeFile → List TreeFile → List TreeFile
joined None files = files
joined (Some f) files = with_file f files

-- the files with one more for each outcome that has one
abbrev pub all_joined : List Outcome → List TreeFile → List TreeFile
all_joined [] files = files
all_joined (o ∷ os) files = all_joined os (joined o.file files)

-- The paths end with these verdicts, and their blobs and leaves are given back in path order, and then the starters of
-- the drivers, in their order, each with its talk.
pub record ArePathsDone (ahead : List ℕ → Starts) (object : List ℕ → Told) (ps : List PathPlan) (drivers : List Driver)
    (verdicts : List Verdict) (history : List Event) (repo repo' : RepoSeen) (tree tree' : TreeSeen)
    (spawner spawner' : SpawnerSeen) : Type 0 where
  pub talks : List DriverTalk
  pub outcomes : List Outcome
  pub same : map (λ o. o.verdict) outcomes ≡ verdicts
  pub count : length ps ≡ length verdicts
  pub fit : AreOutcomes object talks 0 ps outcomes
  pub conversations : AreDriverTalks ahead object ps verdicts history 0 drivers talks
  pub starters : spawner' ≡ with_talks spawner talks
  pub blobs : repo' ≡ with_blobs repo (blobs_back ps outcomes)
  pub leaves : GotLeaves tree (leaves_back ps outcomes) tree'
  pub files : (fs : List TreeFile)
      → Tells tree.files fs → Tells tree'.files (all_joined outcomes fs)

-- how many workers write the paths at this pace
abbrev pub workers_at : Pace → List PathPlan → ℕ
workers_at pace ps = workers_for pace.asked pace.workers pace.threshold (length (filter in_pool ps))

-- The run over the paths is complete, by as many workers as the pace says and by the desks of the drivers.
pub record IsRunAt (pace : Pace) (ps : List PathPlan) (drivers : List Driver) (workers : ℕ) (history : List Event)
    (verdicts : List Verdict) : Type 0 where
  pub many : workers ≡ workers_at pace ps
  pub run : IsRun (starts_of ps) (workers_at pace ps) (length drivers) history verdicts
