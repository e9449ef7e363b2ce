-- How the command `rehearse` ends, and what it writes.
use Rattle.std.specs.Prelude.{◌≡◌, ◌⊎◌, ◌==◌, ◌||◌, ◌≤◌, ℕ, Bool, true, false, not, List, [], ◌∷◌, ◌++◌, length, codes}
use Rattle.std.specs.Prelude.{count_by, sum_by, Some, None}
use Rattle.std.specs.List.{list_any}
use Rattle.std.specs.Fmt.{decimal}
use Rattle.byte_path.specs.Characters.{line_feed}
use Rattle.edge_kit.specs.MemoryDrivers.{starts_for}
use Rattle.edge_kit.specs.Seen.{TreeSeen, SinkSeen}
use Rattle.edge_kit.specs.Starters.{Starts, SpawnerSeen}
use Rattle.edge_kit.specs.Told.{RepoTold}
use Rattle.edge_kit.specs.declared.session_seen.DriverSeen.{DriverSeen}
use Rattle.edge_kit.specs.declared.session_seen.StartOutcome.{StartOutcome}
use Rattle.edge_kit.specs.declared.session_seen.StartOutcome.TheVariants as outcome
use Rattle.edge_kit.specs.declared.tree_file.TreeFile.{TreeFile}
use Rattle.rehearsal.specs.Paths.{in_order}
use Rattle.rehearsal.specs.Repository.{files, IsRepository}
use Rattle.rehearsal.specs.Drivers.{scripts}
use Rattle.checkout_core.specs.declared.verdict.Verdict.{Verdict}
use Rattle.checkout_core.specs.declared.verdict.Verdict.TheVariants as verdict
use Rattle.checkout_core.specs.declared.verdict.FailCause.TheVariants as fail
use Rattle.checkout_core.specs.declared.event.Event.{Event}
use Rattle.checkout_core.specs.declared.path.Start.{Start}
use Rattle.writer_pool.specs.Ends.{IsRun}
use Rattle.checkout_report.specs.Report.{is_written, is_unfiltered, is_failed}
use Rattle.checkout_engine.specs.declared.end.CheckoutRun.{CheckoutRun}
use Rattle.exit_status.specs.declared.status.ExitStatus.{ExitStatus}
use Rattle.exit_status.specs.declared.status.ExitStatus.TheVariants as status
use Rattle.checkout_sources.specs.declared.stop.Stop.{Stop}
use Rattle.checkout_sources.specs.declared.stop.Stop.TheVariants as stop
use Rattle.checkout_engine.specs.Alike.{IsUndisturbed}
use Rattle.checkout_engine.specs.Checkout.{IsRunOf}
use Rattle.checkout_engine.specs.Ends.{Seen, begun, IsCheckedOut, verdicts_of}
use Rattle.exit_status.specs.Said.{IsSilent, Says, Unsaid}
use Rattle.checkout_engine.specs.Report.{status_of, lacks_memory}
use Rattle.exit_status.specs.Status.{number_of}
use Rattle.checkout_paths.specs.Workers.{starts_of, worker_count}

-- the sum of all files' bytes
abbrev pub bytes_of : List TreeFile → ℕ
bytes_of fs = sum_by (λ f. length f.bytes) fs

-- the two halves of the line of a rehearsal, of these numbers
abbrev pub first_words : ℕ → ℕ → ℕ → List ℕ
first_words paths status written =
    codes "rehearse " ++ (decimal paths
    ++ (codes " status " ++ (decimal status ++ (codes " written " ++ decimal written))))

abbrev pub last_words : ℕ → ℕ → ℕ → List ℕ
last_words unfiltered failed bytes =
    codes " unfiltered " ++ (decimal unfiltered
    ++ (codes " failed " ++ (decimal failed ++ (codes " bytes " ++ (decimal bytes ++ line_feed ∷ [])))))

-- The line of a rehearsal of so many paths with these verdicts and files. The status is 1 if a path failed.
unfoldable pub summary : ℕ → List Verdict → List TreeFile → List ℕ
summary paths verdicts fs =
    first_words paths (number_of (status_of verdicts)) (count_by is_written verdicts)
    ++ last_words (count_by is_unfiltered verdicts) (count_by is_failed verdicts) (bytes_of fs)

-- whether memory ran out
abbrev pub is_memory : Stop → Bool
is_memory stop.NoMemory = true
is_memory s = false

-- what is seen as a checkout begins in memory: nothing was called, and there is no file; it looks at no sink
abbrev pub new_memory : Seen
new_memory = begun (record { faults = 0; out = 0; returned = [] })
    (record { empty = Some true; files = Some []; faults = 0; out = 0; returned = [] })
    (record { returned = []; out = 0 })
    (record { written = None; faults = 0 })

-- A repository was checked out into an empty worktree in memory, by its drivers and as many workers as its
-- configuration says. This is its run, and this is left of the worktree and of the spawner.
pub record IsTried (told : RepoTold) (ahead : List ℕ → Starts) (run : CheckoutRun) (tree : TreeSeen)
    (spawner : SpawnerSeen) : Type 0 where
  pub left : Seen
  pub checkout : IsCheckedOut told ahead None new_memory left
  pub own : IsRunOf checkout run
  pub tree_is : tree ≡ left.tree
  pub spawner_is : spawner ≡ left.spawner

-- The same, and nothing disturbed it: no leaf and no link failed, and there was memory for each path.
pub record IsTriedWell (told : RepoTold) (ahead : List ℕ → Starts) (run : CheckoutRun) (tree : TreeSeen) : Type 0 where
  pub spawner : SpawnerSeen
  pub tried : IsTried told ahead run tree spawner
  pub undisturbed : IsUndisturbed tried.checkout

-- the same for the repository and the drivers of a rehearsal
pub record IsRehearsed (seed paths : ℕ) (run : CheckoutRun) (tree : TreeSeen) : Type 0 where
  pub told : RepoTold
  pub made : IsRepository (files seed (in_order paths)) told
  pub well : IsTriedWell told (starts_for (scripts seed (in_order paths))) run tree

-- A rehearsal ended, undisturbed, and its summary is this text.
pub record IsSummed (seed paths : ℕ) (text : List ℕ) : Type 0 where
  pub run : CheckoutRun
  pub tree : TreeSeen
  pub rehearsed : IsRehearsed seed paths run tree
  pub fs : List TreeFile
  pub has : tree.files ≡ Some fs
  pub is : text ≡ summary paths run.verdicts.items fs

-- Two rehearsals by the same numbers have the same summary.
abbrev pub RehearsalsAreAlike : Type 0
RehearsalsAreAlike = (seed paths : ℕ) (a b : List ℕ) → IsSummed seed paths a → IsSummed seed paths b → a ≡ b

-- The run of a rehearsal that nothing disturbed: how its paths began, its workers and its drivers, and all that
-- happened. The history is complete and legal, and its replay gives the verdicts of the paths.
pub record IsRehearsedRun (seed paths : ℕ) (starts : List Start) (workers drivers : ℕ) (history : List Event)
    : Type 0 where
  pub told : RepoTold
  pub made : IsRepository (files seed (in_order paths)) told
  pub left : Seen
  pub checkout : IsCheckedOut told (starts_for (scripts seed (in_order paths))) None new_memory left
  pub undisturbed : IsUndisturbed checkout
  pub starts_are : starts ≡ starts_of checkout.plan.paths
  pub workers_are : workers ≡ worker_count None checkout.planned.settings checkout.plan.paths
  pub drivers_are : drivers ≡ length checkout.plan.drivers
  pub history_is : history ≡ left.history
  pub run : IsRun starts workers drivers history (verdicts_of checkout.outcomes)

-- What the forms in memory kept of a checkout that something disturbed. If the file of a path could not be written, its
-- verdict says so.
abbrev pub is_write_failed : Verdict → Bool
is_write_failed (verdict.Failed fail.WriteFailed) = true
is_write_failed v = false

abbrev pub is_link_failed : StartOutcome → Bool
is_link_failed (outcome.Session s) = not (s.faults == 0)
is_link_failed outcome.Failed = false

abbrev pub is_driver_failed : DriverSeen → Bool
is_driver_failed d = list_any (λ s. is_link_failed s.outcome) d.starts

abbrev pub is_disturbed : List Verdict → List DriverSeen → Bool
is_disturbed verdicts drivers =
    lacks_memory verdicts || (list_any is_write_failed verdicts || list_any is_driver_failed drivers)

-- How a rehearsal ends, with this status. The summary is said. Or nothing is, since memory ran out, or something disturbed
-- the checkout.
abbrev pub Rehearses : ℕ → ℕ → SinkSeen → SinkSeen → ExitStatus → Type 0
Rehearses seed paths old new s =
    ((text : List ℕ) × IsSummed seed paths text × Says Unsaid text status.Done old new s)
    ⊎ IsSilent status.OutOfMemory old new s

-- The same for `run`: the repository, the worktree and the spawner don't change, and nothing is in the history.
pub record EndsRehearsal (seed paths : ℕ) (old new : Seen) (s : ExitStatus) : Type 0 where
  pub shown : Rehearses seed paths old.sink new.sink s
  pub repo : new.repo ≡ old.repo
  pub tree : new.tree ≡ old.tree
  pub spawner : new.spawner ≡ old.spawner
  pub history : new.history ≡ old.history
