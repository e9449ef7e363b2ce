-- The index and the configuration of a repository, with the plan that they make.
use Rattle.std.specs.Prelude.{◌≡◌, ◌≤◌, ◌++◌, length, Result, Ok, Err}
use Rattle.edge_kit.specs.Seen.{RepoSeen}
use Rattle.edge_kit.specs.Told.{RepoTold}
use Rattle.attr_stack.specs.declared.files.OuterFiles.{OuterFiles}
use Rattle.settings_view.specs.declared.view.Settings.{Settings}
use Rattle.checkout_plan.specs.Making.{HasPlan, blobs_of, max_drivers}
use Rattle.checkout_sources.specs.Sources.{HasSources, IsConfigured}
use Rattle.checkout_sources.specs.Reading.{ReadsPlan}
use Rattle.checkout_sources.specs.declared.planned_index.PlannedIndex.{PlannedIndex}
use Rattle.checkout_sources.specs.declared.stop.Stop.{Stop}

-- The repository has this index and this configuration, which says these settings. The plan is theirs, by these attribute
-- files outside the index, and few enough drivers are in use.
pub record HasPlannedIndex (told : RepoTold) (p : PlannedIndex) : Type 0 where
  pub settings : Settings
  pub outer : OuterFiles
  pub sources : HasSources told p.index settings outer
  pub configured : IsConfigured told.config p.config settings
  pub made : HasPlan told.object p.index outer settings p.plan
  pub few : length p.plan.drivers ≤ max_drivers

-- they were read, and the attribute files' blobs, none of which failed, were given back
pub record IsIndexPlanned (told : RepoTold) (p : PlannedIndex) (old new : RepoSeen) : Type 0 where
  pub has : HasPlannedIndex told p
  pub seen : new ≡ record old { returned = old.returned ++ blobs_of p.index }

-- how the reading ends: a fault is one of those that a plan meets
abbrev pub ReadsPlannedIndex : RepoTold → RepoSeen → RepoSeen → Result PlannedIndex Stop → Type 0
ReadsPlannedIndex told old new (Ok p) = IsIndexPlanned told p old new
ReadsPlannedIndex told old new (Err s) = ReadsPlan told old new (Err s)
