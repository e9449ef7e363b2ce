-- A repository that tells all that it holds has one plan, whatever its number of workers.
use Rattle.std.proofs.Common.{◌≡◌, ◌==◌, if◌then◌else◌, map, ℕ, true, List, [], ◌∷◌, Result, Ok, refl, sym, ap, ◌∙◌, subst}
use Rattle.std.specs.List.{AllZip}
use Rattle.edge_kit.specs.Told.{Told, RepoTold}
use Rattle.git_index.specs.declared.entry.Entry.{Entry}
use Rattle.git_index.specs.Spelling.{IsIndex, OneReading}
use Rattle.git_config.specs.Reading.{config_at}
use Rattle.git_config.specs.declared.setting.Setting.{Setting}
use Rattle.git_config.specs.declared.fault.ConfigFault.{ConfigFault}
use Rattle.settings_view.specs.View.{settings_of}
use Rattle.settings_view.specs.declared.view.Settings.{Settings}
use Rattle.settings_view.specs.declared.fault.SettingFault.{SettingFault}
use Rattle.attr_line.specs.File.{attributes_at}
use Rattle.attr_line.specs.declared.file.AttrFile.{AttrFile}
use Rattle.attr_stack.specs.declared.files.OuterFiles.{OuterFiles}
use Rattle.object_dir.specs.declared.fault.ObjectFault.{ObjectFault}
use Rattle.checkout_plan.specs.declared.path_plan.Plan.{Plan}
use Rattle.checkout_plan.specs.AttributeFiles.{attribute_entries, attribute_files}
use Rattle.attr_stack.specs.declared.files.AttrFiles.{AttrFiles}
use Rattle.git_index.specs.declared.entry.Mode.{Mode}
use Rattle.git_index.specs.declared.entry.Mode.TheVariants as mode
use Rattle.checkout_core.specs.declared.verdict.Verdict.TheVariants as verdict
use Rattle.checkout_core.specs.declared.verdict.SkipCause.TheVariants as skip
use Rattle.checkout_plan.specs.declared.path_plan.PathPlan.{PathPlan}
use Rattle.checkout_plan.specs.Paths.{closed, path_of_mode, asked_path, first_entries, plan_with, plan_of}
use Rattle.checkout_plan.specs.Making.{HasContent, HaveContents}
use Rattle.checkout_engine.specs.Alike.{IsTold, RepoTellsAll, DifferInWorkers, OnePlan}
use Rattle.checkout_sources.specs.Sources.{HasIndex, HasSettings, HasAttributes, IsPlanned}
use Rattle.checkout_engine.proofs.ToldObjects.{same_told, same_bytes, gives_found}

pub same_ok : {A E : Type 0} (x y : A) → ◌≡◌ {A = Result A E} (Ok x) (Ok y) → x ≡ y
same_ok x y e = cc

pub same_entries : OneReading → (told : Told) (es fs : List Entry) → IsTold told → HasIndex told es → HasIndex told fs → es ≡ fs
same_entries law told es fs is a b =
    law b.bytes es fs (subst (λ (bytes : List ℕ). IsIndex bytes es) (same_told told a.bytes b.bytes is a.tells b.tells) a.is_index) b.is_index

pub same_settings : (told : Told) (s t : Settings) → IsTold told → HasSettings told s → HasSettings told t → s ≡ t
same_settings told s t is a b =
    let bytes : a.has.bytes ≡ b.has.bytes = same_bytes told a.has.bytes b.has.bytes is a.has.has b.has.has in
    let list : a.list ≡ b.list = same_ok {A = List Setting} {E = ConfigFault} a.list b.list (sym a.has.reads ∙ ap config_at bytes ∙ b.has.reads) in
    same_ok {A = Settings} {E = SettingFault} s t (sym a.says ∙ ap settings_of list ∙ b.says)

same_attributes : (told : Told) (i j : AttrFile) → IsTold told → HasAttributes told i → HasAttributes told j → i ≡ j
same_attributes told i j is a b = a.says ∙ ap (λ (bytes : List ℕ). attributes_at bytes true) (same_bytes told a.bytes b.bytes is a.has b.has) ∙ sym b.says

-- equal attribute files outside the index
pub same_outer : (i j : OuterFiles) → i.info ≡ j.info → i.base ≡ j.base → i ≡ j
same_outer i j a b = ap (λ (x : AttrFile). outer_of x i.base) a ∙ ap (λ (x : AttrFile). outer_of j.info x) b
  where
    outer_of : AttrFile → AttrFile → OuterFiles
    outer_of info base = record { info = info; base = base }

same_contents : (object : List ℕ → Told) (es : List Entry) (cs ds : List (List ℕ)) → ((name : List ℕ) → IsTold (object name)) → AllZip (λ e c. HasContent (object e.name) e c) es cs
    → AllZip (λ e d. HasContent (object e.name) e d) es ds → cs ≡ ds
same_contents object [] [] [] all a b = refl
same_contents object [] [] (d ∷ ds) all a b = absurd b
same_contents object [] (c ∷ cs) ds all a b = absurd a
same_contents object (e ∷ es) [] ds all a b = absurd a
same_contents object (e ∷ es) (c ∷ cs) [] all a b = absurd b
same_contents object (e ∷ es) (c ∷ cs) (d ∷ ds) all a b =
    let here : c ≡ d = same_ok {A = List ℕ} {E = ObjectFault} c d (sym (gives_found (object e.name) e.name (Ok c) (all e.name) a.0.0) ∙ gives_found (object e.name) e.name (Ok d) (all e.name) b.0.0) in
    rw (here, same_contents object es cs ds all a.1 b.1) refl

same_plan_of : (es fs : List Entry) (s : Settings) (i j : OuterFiles) (cs ds : List (List ℕ)) → es ≡ fs → i ≡ j → cs ≡ ds → plan_of es s i cs ≡ plan_of fs s j ds
same_plan_of es fs s i j cs ds a c d =
    ap (λ (x : List Entry). plan_of x s i cs) a ∙ ap (λ (x : OuterFiles). plan_of fs s x cs) c ∙ ap (λ (x : List (List ℕ)). plan_of fs s j x) d

-- A plan doesn't depend on the number of workers or on the threshold.
abbrev with_pace : Settings → ℕ → ℕ → Settings
with_pace s workers threshold = record s { workers = workers; threshold = threshold }

module _ (files : AttrFiles) (s : Settings) (workers threshold : ℕ) where
  mode_same : (m : Mode) (e : Entry) → path_of_mode m files (with_pace s workers threshold) e ≡ path_of_mode m files s e
  mode_same mode.Plain e = refl
  mode_same mode.Executable e = refl
  mode_same mode.Link e = refl
  mode_same mode.Gitlink e = refl

  asked_same : (e : Entry) → asked_path files (with_pace s workers threshold) e ≡ asked_path files s e
  asked_same e = ap (λ (p : PathPlan). if e.stage == 0 then p else closed e (verdict.Skipped skip.Unmerged)) (mode_same e.mode e)

  all_same : (es : List Entry) → map (asked_path files (with_pace s workers threshold)) es ≡ map (asked_path files s) es
  all_same [] = refl
  all_same (e ∷ es) = rw (asked_same e, all_same es) refl

plan_unpaced : (es : List Entry) (s : Settings) (i : OuterFiles) (cs : List (List ℕ)) (workers threshold : ℕ) → plan_of es (with_pace s workers threshold) i cs ≡ plan_of es s i cs
plan_unpaced es s i cs workers threshold = unfold plan_of in
    ap (λ (asked : List PathPlan). plan_with (attribute_files i es cs) asked s) (all_same (attribute_files i es cs) s workers threshold (first_entries es))

-- two repositories that differ in the number of workers and the threshold alone have one plan
pub same_plan : OneReading → (told told' : RepoTold) (p q : Plan) → RepoTellsAll told → DifferInWorkers told told' → IsPlanned told p → IsPlanned told' q → p ≡ q
same_plan law told told' p q all differ a b =
    let index : HasIndex told.index b.entries = subst (λ (t : Told). HasIndex t b.entries) differ.index b.sources.index in
    let attributes : HasAttributes told.info b.outer.info = subst (λ (t : Told). HasAttributes t b.outer.info) differ.info b.sources.info in
    let base : HasAttributes told.base b.outer.base = subst (λ (t : Told). HasAttributes t b.outer.base) differ.base b.sources.base in
    let contents' : HaveContents told.object b.entries b.made.contents = subst (λ (object : List ℕ → Told). HaveContents object b.entries b.made.contents) differ.object b.made.read in
    let entries : a.entries ≡ b.entries = same_entries law told.index a.entries b.entries all.index a.sources.index index in
    let outer : a.outer ≡ b.outer = same_outer a.outer b.outer
    (same_attributes told.info a.outer.info b.outer.info all.info a.sources.info attributes)
    (same_attributes told.base a.outer.base b.outer.base all.base a.sources.base base) in
    let read : HaveContents told.object b.entries a.made.contents = subst (λ (es : List Entry). HaveContents told.object es a.made.contents) entries a.made.read in
    let contents : a.made.contents ≡ b.made.contents = same_contents told.object (attribute_entries b.entries) a.made.contents b.made.contents all.object read contents' in
    let settings : b.settings ≡ with_pace a.settings (b.settings).workers (b.settings).threshold = differ.settings a.settings b.settings a.sources.config b.sources.config in
    let other : plan_of b.entries b.settings b.outer b.made.contents ≡ plan_of b.entries a.settings b.outer b.made.contents =
    ap (λ (s : Settings). plan_of b.entries s b.outer b.made.contents) settings ∙ plan_unpaced b.entries a.settings b.outer b.made.contents (b.settings).workers (b.settings).threshold in
    a.made.is ∙ same_plan_of a.entries b.entries a.settings a.outer b.outer a.made.contents b.made.contents entries outer contents ∙ sym (b.made.is ∙ other)

-- a repository that tells its configuration has one list of settings
pub differs_not : (told : RepoTold) → IsTold told.config → DifferInWorkers told told
differs_not told is = record {
  index = refl;
  info = refl;
  base = refl;
  object = refl;
  settings = λ s s' a b.
      let same : s' ≡ s = same_settings told.config s' s is b a in
      same ∙ ap (λ (x : Settings). with_pace s x.workers x.threshold) (sym same);
}

-- one repository has one plan, by one list of settings
pub one_plan : OneReading → OnePlan
one_plan reading told all p q a b =
    (same_plan reading told told p q all (differs_not told all.config) a b, same_settings told.config a.settings b.settings all.config a.sources.config b.sources.config)
