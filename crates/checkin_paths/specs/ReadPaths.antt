-- What the reading of the paths of an index promises.
use Rattle.std.specs.Prelude.{◌≡◌, ◌<◌, ◌^◌, Bool, true, not, List, length, Result, Ok, Err}
use Rattle.std.specs.List.{AllByRecursion}
use Rattle.std.specs.Str.{bytes_eq}
use Rattle.edge_kit.specs.Seen.{RepoSeen}
use Rattle.edge_kit.specs.Told.{RepoTold}
use Rattle.git_index.specs.declared.entry.Entry.{Entry}
use Rattle.git_index.specs.Spelling.{CanStand, pairwise}
use Rattle.git_config.specs.declared.setting.Setting.{Setting}
use Rattle.checkout_plan.specs.Making.{blobs_of}
use Rattle.checkout_sources.specs.declared.planned_index.PlannedIndex.{PlannedIndex}
use Rattle.checkout_sources.specs.declared.stop.Stop.{Stop}
use Rattle.checkout_sources.specs.declared.stop.Stop.TheVariants as stop
use Rattle.checkout_sources.specs.Reading.{ReadsPlan}
use Rattle.settings_view.specs.Drivers.{drivers_told}
use Rattle.settings_view.specs.View.{settings_of}
use Rattle.settings_view.specs.declared.view.Settings.{Settings}
use Rattle.settings_view.specs.declared.drivers.SingleRun.TheVariants.{Clean}
use Rattle.checkin_paths.specs.declared.path.CheckinPath.{CheckinPath}
use Rattle.checkin_paths.specs.declared.paths_read.PathsRead.{PathsRead}
use Rattle.checkin_paths.specs.Paths.{HasPaths}
use Rattle.checkin_paths.specs.PlannedWays.{planned_paths}
use Rattle.checkin_paths.specs.Looks.{IsOpen}
use Rattle.checkin_paths.specs.Outcomes.{with_blobs}

-- once its attribute files were read, none of whose blobs failed
abbrev pub after_reading : List Entry → RepoSeen → RepoSeen
after_reading es repo = with_blobs (blobs_of es) repo

-- a configuration that says some settings
abbrev pub IsSound : List Setting → Type 0
IsSound config = (settings : Settings) × (settings_of config ≡ Ok settings)

-- the paths of what was read, unless memory ran out
abbrev pub PathsOf : PlannedIndex → Result PathsRead Stop → Type 0
PathsOf p (Ok r) = (r.index ≡ p.index) × (drivers_told Clean p.config ≡ Ok r.drivers)
    × (r.paths.items ≡ planned_paths r.drivers p.plan.paths)
PathsOf p (Err s) = s ≡ stop.NoMemory

-- no two paths have one name
abbrev pub are_apart : List CheckinPath → Bool
are_apart ps = pairwise (λ p q. not (bytes_eq p.path q.path)) ps

-- the paths of the index were read
pub record ArePathsRead (told : RepoTold) (r : PathsRead) (old new : RepoSeen) : Type 0 where
  pub has : HasPaths told r.drivers r.index r.paths.items
  pub stand : CanStand r.index
  pub few : length r.paths.items < 2 ^ 32
  pub are_open : AllByRecursion (IsOpen (length r.drivers)) r.paths.items
  pub apart : are_apart r.paths.items ≡ true
  pub seen : new ≡ after_reading r.index old

-- how the reading of the paths ends
abbrev pub ReadsPaths : RepoTold → RepoSeen → RepoSeen → Result PathsRead Stop → Type 0
ReadsPaths told old new (Ok r) = ArePathsRead told r old new
ReadsPaths told old new (Err s) = ReadsPlan told old new (Err s)
