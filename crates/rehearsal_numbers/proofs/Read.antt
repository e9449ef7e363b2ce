-- What is read of a rehearsal's repository: its entries, its settings and its attribute files.
use Rattle.std.proofs.Common.{◌≡◌, ℕ, ⊎_elim, true, List, [], ◌∷◌, map, Some, None, Ok, refl, sym, subst, ap, ◌∙◌}
use Rattle.std.specs.Prelude.{codes}
use Rattle.std.specs.List.{AllZip}
use Rattle.edge_kit.specs.Told.{Told, Raw, Absent, RepoTold, TellsBytes, TellsNone}
use Rattle.object_dir.specs.Object.{Gives, object_of}
use Rattle.object_dir.specs.Spelling.{spelled_blob}
use Rattle.git_index.specs.declared.entry.Entry.{Entry}
use Rattle.git_index.specs.Spelling.{OneReading, plain_text, IsIndex}
use Rattle.git_config.specs.declared.setting.Setting.{Setting}
use Rattle.git_config.specs.Text.{behind_blanks, line_end}
use Rattle.git_config.specs.Header.{plain_head, sub_at, quoted_head_at, named_at, header_at}
use Rattle.git_config.specs.Value.{value_from}
use Rattle.git_config.specs.Reading.{keyed_at, setting_at, after_header, after_setting, step_from, step_at}
use Rattle.git_config.specs.Reading.{settings_at, text_at, config_at}
use Rattle.settings_view.specs.declared.view.Settings.{Settings}
use Rattle.settings_view.specs.Value.{is_word, is_true_word, is_false_word}
use Rattle.settings_view.specs.Keys.{is_key, last_value}
use Rattle.settings_view.specs.Drivers.{names_of, is_driver_key, said_of}
use Rattle.settings_view.specs.View.{settings_of}
use Rattle.attr_line.specs.declared.file.AttrFile.{AttrFile}
use Rattle.attr_line.specs.File.{attributes_at}
use Rattle.attr_stack.specs.declared.files.FileAt.{FileAt}
use Rattle.attr_stack.specs.declared.files.AttrFiles.{AttrFiles}
use Rattle.attr_stack.specs.declared.files.OuterFiles.{OuterFiles}
use Rattle.checkout_plan.specs.declared.path_plan.Plan.{Plan}
use Rattle.checkout_plan.specs.AttributeFiles.{attribute_entries, attribute_files, by_folder, files_at}
use Rattle.checkout_plan.specs.Making.{HasContent, HaveContents}
use Rattle.checkout_plan.specs.Paths.{plan_of, plan_by, plan_with}
use Rattle.rehearsal.specs.Paths.{in_order}
use Rattle.rehearsal.specs.Repository.{File, attributes, attributes_name, config, files, entry_of, entries, IsRepository}
use Rattle.rehearsal.specs.Repository as repository
use Rattle.rehearsal.specs.Repository.{FilesHaveAnIndex, AttributesAreRight}
use Rattle.checkout_sources.specs.Sources.{HasSettings, HasAttributes, HasBytes, IsPlanned}
use Rattle.rehearsal_numbers.specs.Plans.{IsPlanOf, HavePlans}
use Rattle.rehearsal_numbers.proofs.Rows.{rows_are}
use Rattle.rehearsal_numbers.proofs.Asked.{settings, no_file, none_is, given, first}
use Rattle.rehearsal_numbers.proofs.Plans.{asked, asked_are, plan_is}

-- what the configuration of a rehearsal says, key by key
said : List Setting
said =
    record { section = codes "checkout"; sub = None; key = codes "workers"; value = Some (codes "4") }
    ∷ record {
      section = codes "checkout";
      sub = None;
      key = codes "thresholdforparallelism";
      value = Some (codes "1");
    }
    ∷ record {
      section = codes "filter";
      sub = Some (codes "alpha");
      key = codes "process";
      value = Some (codes "alpha");
    }
    ∷ record {
      section = codes "filter";
      sub = Some (codes "alpha");
      key = codes "required";
      value = Some (codes "true");
    }
    ∷ record {
      section = codes "filter";
      sub = Some (codes "beta");
      key = codes "process";
      value = Some (codes "beta");
    }
    ∷ []

reads : config_at config ≡ Ok said
unfolding behind_blanks line_end plain_head sub_at quoted_head_at named_at header_at value_from keyed_at setting_at after_header after_setting step_from step_at settings_at text_at config_at config said
reads = refl

says : settings_of said ≡ Ok settings
unfolding is_word is_true_word is_false_word is_key last_value names_of is_driver_key said_of settings_of said
says = refl

pub told_bytes : (told : Told) (raw bytes : List ℕ) → told ≡ Raw raw → TellsBytes told bytes → bytes ≡ raw
told_bytes told raw bytes e h = subst (λ (t : Told). TellsBytes t bytes) e h

has_bytes : (told : Told) (raw bytes : List ℕ) → told ≡ Raw raw → HasBytes told bytes → bytes ≡ raw
has_bytes told raw bytes e h = ⊎_elim
    (λ (k : TellsBytes told bytes). told_bytes told raw bytes e k)
    (λ (k : TellsNone told × (bytes ≡ [])). absurd (subst TellsNone e k.0))
    h

has_none : (told : Told) (bytes : List ℕ) → told ≡ Absent → HasBytes told bytes → bytes ≡ []
has_none told bytes e h = ⊎_elim
    (λ (k : TellsBytes told bytes). absurd (subst (λ (t : Told). TellsBytes t bytes) e k))
    (λ (k : TellsNone told × (bytes ≡ [])). k.1)
    h

settings_are : (told : RepoTold) (s : Settings) → told.config ≡ Raw config → HasSettings told.config s → s ≡ settings
settings_are told s e h =
    let bytes : h.has.bytes ≡ config = has_bytes told.config config h.has.bytes e h.has.has in
    let list : h.list ≡ said =
    (let same : Ok h.list ≡ Ok said = sym h.has.reads ∙ ap config_at bytes ∙ reads in cc (same)) in
    let same : Ok s ≡ Ok settings = sym h.says ∙ ap settings_of list ∙ says in
    cc (same)

nothing_said : (told : Told) (f : AttrFile) → told ≡ Absent → HasAttributes told f → f ≡ no_file
nothing_said told f e h = h.says ∙ ap (λ (b : List ℕ). attributes_at b true) (has_none told h.bytes e h.has) ∙ none_is

-- the attribute file alone is one
none_numbered : (seed : ℕ) (is : List ℕ) → attribute_entries (map entry_of (map (repository.file seed) is)) ≡ []
none_numbered seed [] = refl
none_numbered seed (i ∷ is) = none_numbered seed is

one_file : (seed : ℕ) (is : List ℕ) → attribute_entries (entries (files seed is)) ≡ entry_of first ∷ []
one_file seed is = ap (λ (es : List Entry). entry_of first ∷ es) (none_numbered seed is)

-- a right object gives its content alone
pub one_content : (told : Told) (raw name content got : List ℕ) → told ≡ Raw raw → object_of raw name ≡ Ok content
    → Gives told name (Ok got) → got ≡ content
one_content told raw name content got e right h =
    let stored : h.0 ≡ raw = told_bytes told raw h.0 e h.1 in
    let same : Ok got ≡ Ok content = sym h.2 ∙ ap (λ (b : List ℕ). object_of b name) stored ∙ right in
    cc (same)

module _ (right : AttributesAreRight) (seed : ℕ) (is : List ℕ) (told : RepoTold) (made : IsRepository (files seed is) told) where
  contents_are : (contents : List (List ℕ)) → HaveContents told.object (entries (files seed is)) contents
      → contents ≡ attributes ∷ []
  contents_are contents h =
      go contents (subst (λ (es : List Entry). AllZip (λ e content. HasContent (told.object e.name) e content) es contents)
      (one_file seed is) h)
    where
      go : (contents : List (List ℕ))
          → AllZip (λ (e : Entry) (content : List ℕ). HasContent (told.object e.name) e content) (entry_of first ∷ []) contents
          → contents ≡ attributes ∷ []
      go [] h = absurd h
      go (c ∷ []) h =
          ap (λ (x : List ℕ). x ∷ [])
          (one_content (told.object attributes_name) (spelled_blob attributes) attributes_name attributes c
          (made.object attributes_name ∙ right.there seed is) right.right h.0.0)
      go (c ∷ d ∷ cs) h = absurd h.1

abbrev no_outer : OuterFiles
no_outer = record { info = no_file; base = no_file }

abbrev given_by : List FileAt → AttrFiles
given_by files = record { info = no_file; base = no_file; files = files }

files_are : (seed : ℕ) (is : List ℕ) → attribute_files no_outer (entries (files seed is)) (attributes ∷ []) ≡ given
unfolding attribute_files
files_are seed is =
    ap (λ (es : List Entry). given_by (by_folder (files_at es (attributes ∷ [])))) (one_file seed is)
    ∙ ap (λ (f : AttrFile). given_by (record { folder = []; file = f } ∷ [])) rows_are

by_sources : (seed : ℕ) (is : List ℕ) (told : RepoTold) → IsRepository (files seed is) told → AttributesAreRight
    → (plan : Plan) → (p : IsPlanned told plan) → p.entries ≡ entries (files seed is)
    → plan ≡ plan_of (entries (files seed is)) settings no_outer (attributes ∷ [])
by_sources seed is told made right plan p same =
    let set = settings_are told p.settings made.config p.sources.config in
    let info = nothing_said told.info (p.outer).info made.info p.sources.info in
    let base = nothing_said told.base (p.outer).base made.base p.sources.base in
    let contents = contents_are right seed is told made p.made.contents
    (subst (λ (es : List Entry). HaveContents told.object es p.made.contents) same p.made.read) in
    p.made.is ∙ (λ j. plan_of (same j) (set j) (record { info = info j; base = base j }) (contents j))

plan_seen : (seed : ℕ) (is : List ℕ)
    → plan_of (entries (files seed is)) settings no_outer (attributes ∷ [])
    ≡ plan_by (attribute_files no_outer (entries (files seed is)) (attributes ∷ [])) settings (entries (files seed is))
unfolding plan_of
plan_seen seed is = refl

pub have_plans : FilesHaveAnIndex → AttributesAreRight → OneReading → HavePlans
have_plans indexed right reading seed n few told made plan p =
    let is = in_order n in
    let es = entries (files seed is) in
    let index = indexed seed n few in
    let text : p.sources.index.bytes ≡ plain_text es =
    told_bytes told.index (plain_text es) p.sources.index.bytes made.index p.sources.index.tells in
    let same : p.entries ≡ es =
    reading p.sources.index.bytes p.entries es p.sources.index.is_index
    (subst (λ (b : List ℕ). IsIndex b es) (sym text) index) in
    let is_plan : plan ≡ plan_with given (asked seed is) settings =
    by_sources seed is told made right plan p same ∙ plan_seen seed is
    ∙ ap (λ files. plan_by files settings es) (files_are seed is)
    ∙ ap (λ paths. plan_with given paths settings) (asked_are seed is index.text.alone) in
    subst (IsPlanOf seed is) (sym is_plan) (plan_is seed is)
