-- What two checkouts have in common, whatever the number of their workers, and how that number binds each.
use Rattle.std.specs.Prelude.{◌≡◌, ◌⊎◌, ◌+◌, ℕ, true, false, List, length, Option, Some, slice_get}
use Rattle.std.specs.List.{AllByRecursion}
use Rattle.std.specs.Global.{Vec}
use Rattle.edge_kit.specs.Memory.{repo_told}
use Rattle.edge_kit.specs.MemoryDrivers.{starts_for}
use Rattle.edge_kit.specs.Starters.{Starts, StartsListed, StartTold}
use Rattle.edge_kit.specs.Told.{Told, Raw, Absent, Failing, Untold, RepoTold}
use Rattle.edge_kit.specs.declared.memory_repo.RepoFail.{RepoFail}
use Rattle.edge_kit.specs.declared.script.DriverScript.{DriverScript}
use Rattle.edge_kit.specs.declared.tree_file.TreeFile.{TreeFile}
use Rattle.delay_table.specs.Table.{contains}
use Rattle.checkout_core.specs.declared.path.Heard.TheVariants as heard
use Rattle.checkout_core.specs.Fates.{Known}
use Rattle.driver_line.specs.SameHeard.{NoneFailed, HaveSamePaths, fate_in, content_of}
use Rattle.settings_view.specs.declared.view.Settings.{Settings}
use Rattle.checkout_plan.specs.declared.path_plan.Plan.{Plan}
use Rattle.checkout_engine.specs.Complete.{failed_leaves, HadMemory}
use Rattle.checkout_engine.specs.Ends.{Seen, IsCheckedOut, verdicts_of, files_of}
use Rattle.run_report.specs.Rows.{report}
use Rattle.checkout_engine.specs.Report.{lacks_memory}
use Rattle.checkout_paths.specs.Talks.{DriverTalk}
use Rattle.checkout_sources.specs.Sources.{HasSettings, IsPlanned}
use Rattle.checkout_paths.specs.Workers.{starts_of, worker_count, HaveActorsBelow}

-- something is told: bytes, that there are none, or that taking them fails
abbrev pub IsTold : Told → Type 0
IsTold (Raw bytes) = Unit {0}
IsTold Absent = Unit {0}
IsTold Failing = Unit {0}
IsTold Untold = ⊥

-- The repository tells all that it holds.
pub record RepoTellsAll (told : RepoTold) : Type 0 where
  pub index : IsTold told.index
  pub config : IsTold told.config
  pub info : IsTold told.info
  pub base : IsTold told.base
  pub object : (name : List ℕ) → IsTold (told.object name)

-- Such a repository has one plan, and it is made by one list of settings.
abbrev pub OnePlan : Type 0
OnePlan = (told : RepoTold) → RepoTellsAll told → (p q : Plan)
    → (a : IsPlanned told p) → (b : IsPlanned told q) → (p ≡ q) × (a.settings ≡ b.settings)

-- A repository tells all, and the spawner tells the starts of each command.
pub record TellAll (told : RepoTold) (ahead : List ℕ → Starts) : Type 0 where
  pub repo : RepoTellsAll told
  pub starts : (command : List ℕ) → (starts : List StartTold) × (ahead command ≡ StartsListed starts)

-- The forms in memory do so.
abbrev pub MemoryTellsAll : Type 0
MemoryTellsAll = (index config info base : Option (Vec ℕ)) (objects : List (List ℕ × Vec ℕ))
    (fails : List RepoFail) (scripts : List DriverScript)
    → TellAll (repo_told index config info base objects fails) (starts_for scripts)

-- No leaf of the checkout failed, and no link. There was memory for each path.
pub record IsUndisturbed {told : RepoTold} {ahead : List ℕ → Starts} {asked : Option ℕ}
    {old new : Seen} (c : IsCheckedOut told ahead asked old new) : Type 0 where
  pub leaves : failed_leaves new.tree.returned ≡ failed_leaves old.tree.returned
  pub links : AllByRecursion (λ t. NoneFailed t.had) c.talks
  pub memory : lacks_memory (verdicts_of c.outcomes) ≡ false

-- The two have the same plan, the same verdict for each path, the same files and the same report.
-- So their worktrees tell the same files, if they tell them.
pub record AreAlike {told told' : RepoTold} {ahead : List ℕ → Starts} {a b : Option ℕ}
    {old new before after : Seen} (c : IsCheckedOut told ahead a old new)
    (e : IsCheckedOut told' ahead b before after) : Type 0 where
  pub plan : c.plan ≡ e.plan
  pub verdicts : verdicts_of c.outcomes ≡ verdicts_of e.outcomes
  pub files : files_of c.outcomes ≡ files_of e.outcomes
  pub report : report c.plan.paths (verdicts_of c.outcomes)
      ≡ report e.plan.paths (verdicts_of e.outcomes)
  pub trees : (fs gs : List TreeFile) → new.tree.files ≡ Some fs → after.tree.files ≡ Some gs
      → fs ≡ gs

-- Two checkouts of a repository that tells all, with drivers whose starts are told, are alike if
-- neither was disturbed, whatever the numbers of workers that are asked for.
abbrev pub WorkersChangeNothing : Type 0
WorkersChangeNothing = (told : RepoTold) (ahead : List ℕ → Starts) (a b : Option ℕ)
    (old new before after : Seen) → TellAll told ahead
    → (c : IsCheckedOut told ahead a old new) → (e : IsCheckedOut told ahead b before after)
    → IsUndisturbed c → IsUndisturbed e → AreAlike c e

-- The two repositories hold the same, but their settings may differ in the number of workers and in
-- the threshold.
pub record DifferInWorkers (told told' : RepoTold) : Type 0 where
  pub index : told'.index ≡ told.index
  pub info : told'.info ≡ told.info
  pub base : told'.base ≡ told.base
  pub object : told'.object ≡ told.object
  pub settings : (s s' : Settings) → HasSettings told.config s → HasSettings told'.config s'
      → s' ≡ record s { workers = s'.workers; threshold = s'.threshold }

-- The same for two such repositories.
abbrev pub SettingsChangeNothing : Type 0
SettingsChangeNothing = (told told' : RepoTold) (ahead : List ℕ → Starts) (a b : Option ℕ)
    (old new before after : Seen) → TellAll told ahead → DifferInWorkers told told'
    → (c : IsCheckedOut told ahead a old new) → (e : IsCheckedOut told' ahead b before after)
    → IsUndisturbed c → IsUndisturbed e → AreAlike c e

-- Both talks are by one command, over the same paths, which have the same texts, objects' names and prepared bytes.
pub record AreSameTalks (t u : DriverTalk) : Type 0 where
  pub command : u.command ≡ t.command
  pub asked : u.asked ≡ t.asked
  pub paths : HaveSamePaths t.paths u.paths t.asked

-- each path heard the same in both, and got the same content if it got one
abbrev pub HearAlike : ℕ → DriverTalk → DriverTalk → Type 0
HearAlike d t u = (n : ℕ) → contains n t.asked ≡ true → (fate_in d n t.exchanges ≡ fate_in d n u.exchanges)
    × (fate_in d n t.exchanges ≡ Known heard.Got → content_of n t.exchanges ≡ content_of n u.exchanges)

-- the starts are told one by one
abbrev pub AreListed : Starts → Type 0
AreListed starts = (list : List StartTold) × (starts ≡ StartsListed list)

-- What the drivers say decides the rest: two checkouts of one repository that tells all, or of two such ones, are alike
-- if neither was disturbed, and if for each driver its starts are told one by one, or its paths hear the same in both.
abbrev pub TalksDecide : Type 0
TalksDecide = (told told' : RepoTold) (ahead : List ℕ → Starts) (a b : Option ℕ)
    (old new before after : Seen) → RepoTellsAll told → (told' ≡ told) ⊎ DifferInWorkers told told'
    → (c : IsCheckedOut told ahead a old new) → (e : IsCheckedOut told' ahead b before after)
    → IsUndisturbed c → IsUndisturbed e
    → ((d : ℕ) (t u : DriverTalk) → slice_get c.talks d ≡ Some t → slice_get e.talks d ≡ Some u → AreSameTalks t u
    → AreListed (ahead t.command) ⊎ HearAlike d t u)
    → AreAlike c e

-- No path of a talk hears that memory ran out, where no path of the checkout ends so.
abbrev pub TalksHaveMemory : Type 0
TalksHaveMemory = (told : RepoTold) (ahead : List ℕ → Starts) (asked : Option ℕ) (old new : Seen)
    → (c : IsCheckedOut told ahead asked old new) → lacks_memory (verdicts_of c.outcomes) ≡ false
    → (d : ℕ) (t : DriverTalk) → slice_get c.talks d ≡ Some t → HadMemory d t

-- Whoever made an entry of the history of a checkout is below the number of its workers and its drivers.
abbrev pub ActorsAreNumbered : Type 0
ActorsAreNumbered = (told : RepoTold) (ahead : List ℕ → Starts) (asked : Option ℕ) (old new : Seen)
    → (c : IsCheckedOut told ahead asked old new)
    → (let workers = worker_count asked c.planned.settings c.plan.paths in
    HaveActorsBelow (workers + length c.plan.drivers) (starts_of c.plan.paths) workers new.history)
