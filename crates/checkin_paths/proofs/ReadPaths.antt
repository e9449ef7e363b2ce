-- How the reading of the paths ends.
use Rattle.std.proofs.Common.{◌≡◌, ◌^◌, ◌<◌, true, List, ◌++◌, length, Result, Ok, Err, sym, ap, subst, ◌∙◌, inr, arith}
use Rattle.std.specs.List.{AllByRecursion}
use Rattle.std.proofs.Math.Seq.{take-length}
use Rattle.edge_kit.specs.Seen.{RepoSeen}
use Rattle.edge_kit.specs.Told.{RepoTold}
use Rattle.git_index.specs.declared.entry.Entry.{Entry}
use Rattle.git_index.specs.Spelling.{CanStand, EntriesCanStand, PathsAreOrdered}
use Rattle.git_config.specs.declared.setting.Setting.{Setting}
use Rattle.attr_stack.specs.declared.files.AttrFiles.{AttrFiles}
use Rattle.settings_view.specs.Drivers.{drivers_told}
use Rattle.settings_view.specs.View.{settings_of}
use Rattle.settings_view.specs.declared.drivers.SingleRun.TheVariants.{Clean}
use Rattle.settings_view.specs.declared.view.Driver.{Driver}
use Rattle.settings_view.specs.declared.view.Settings.{Settings}
use Rattle.checkout_plan.specs.AttributeFiles.{attribute_files}
use Rattle.checkout_plan.specs.declared.path_plan.Plan.{Plan}
use Rattle.checkout_plan.specs.Making.{blobs_of}
use Rattle.checkout_plan.specs.Paths.{PlacesStart}
use Rattle.checkout_sources.specs.declared.planned_index.PlannedIndex.{PlannedIndex}
use Rattle.checkout_sources.specs.declared.stop.Stop.{Stop}
use Rattle.checkout_sources.specs.PlannedIndex.{IsIndexPlanned}
use Rattle.checkout_sources.specs.Causes.{IsCutShort}
use Rattle.checkout_sources.specs.Reading.{ReadsPlan}
use Rattle.checkin_paths.specs.declared.path.CheckinPath.{CheckinPath}
use Rattle.checkin_paths.specs.declared.paths_read.PathsRead.{PathsRead}
use Rattle.checkin_paths.specs.Looks.{IsOpen}
use Rattle.checkin_paths.specs.ReadPaths.{after_reading}
use Rattle.checkin_paths.specs.ReadPaths.{are_apart, PathsOf, ReadsPaths}
use Rattle.checkin_paths.specs.Paths.{checkin_paths}
use Rattle.checkin_paths.specs.PlannedWays.{planned_paths}
use Rattle.checkin_paths.proofs.Drivers.{AreAlike, are_alike}
use Rattle.checkin_paths.proofs.Planned.{paths_fit}
use Rattle.checkin_paths.proofs.Texts.{paths_are_open, paths_are_few}
use Rattle.checkin_paths.proofs.Apart.{paths_are_apart}

-- memory ran out once the attribute files were read
cut_short : (told : RepoTold) (p : PlannedIndex) (old new : RepoSeen) → IsIndexPlanned told p old new → IsCutShort told old new
cut_short told p old new read = inr (record {
  entries = p.index;
  settings = read.has.settings;
  outer = read.has.outer;
  sources = read.has.sources;
  count = length p.index;
  within = omega arith;
  seen = read.seen ∙ ap (λ (es : List Entry). record old { returned = old.returned ++ blobs_of es }) (sym (take-length p.index));
})

-- the drivers of a configuration that clean are those of its settings
cleaning_alike : (config : List Setting) (settings : Settings) (drivers : List Driver) → settings_of config ≡ Ok settings → drivers_told Clean config ≡ Ok drivers → AreAlike settings.drivers drivers
cleaning_alike config settings drivers says cleaning =
    let found = are_alike config settings says in
    let same : found.0 ≡ drivers = let both : Ok found.0 ≡ Ok drivers = sym found.1 ∙ cleaning in cc in
    subst (AreAlike settings.drivers) same found.2

-- the paths of what was read, or why there are none
pub reads_paths : (told : RepoTold) (p : PlannedIndex) (old new : RepoSeen) (r : Result PathsRead Stop) → EntriesCanStand → PathsAreOrdered → PlacesStart → IsIndexPlanned told p old new → PathsOf p r → ReadsPaths told old new r
reads_paths told p old new (Ok r) law order places read (entries, cleaning, paths) =
    let stand : CanStand p.index = law read.has.sources.index.bytes p.index read.has.sources.index.is_index in
    let settings : Settings = read.has.settings in
    let files : AttrFiles = attribute_files read.has.outer p.index read.has.made.contents in
    let these : r.paths.items ≡ checkin_paths files r.drivers settings p.index =
    paths ∙ ap (λ (q : Plan). planned_paths r.drivers q.paths) read.has.made.is
    ∙ paths_fit places p.index settings read.has.outer read.has.made.contents r.drivers (cleaning_alike p.config settings r.drivers read.has.configured.says cleaning) in record {
      has = record { planned = p; has = read.has; cleaning = cleaning; entries = entries; paths = these };
      stand = subst CanStand (sym entries) stand;
      few = subst (λ (ps : List CheckinPath). length ps < 2 ^ 32) (sym these) (paths_are_few files r.drivers settings p.index stand.few);
      are_open = subst (λ (ps : List CheckinPath). AllByRecursion (IsOpen (length r.drivers)) ps) (sym these) (paths_are_open files r.drivers settings p.index stand.each);
      apart = subst (λ (ps : List CheckinPath). are_apart ps ≡ true) (sym these) (paths_are_apart files r.drivers settings order p.index read.has.sources.index.is_index.text.rising);
      seen = read.seen ∙ ap (λ (es : List Entry). after_reading es old) (sym entries);
    }
reads_paths told p old new (Err s) law order places read is =
    subst (λ (s : Stop). ReadsPlan told old new (Err s)) (sym is) (cut_short told p old new read)
