-- The repository of a rehearsal is valid.
use Rattle.std.proofs.Common.{◌≡◌, ℕ, suc, ◌≤◌, inl, inr, Bool, true, false, List, [], ◌∷◌, length, map, Some, None, Ok, refl, sym, subst, ap, ◌∙◌, arith}
use Rattle.std.specs.Prelude.{codes, if◌then◌else◌}
use Rattle.std.specs.List.{AllZip}
use Rattle.edge_kit.specs.Told.{Told, Raw, RepoTold, TellsBytes, TellsNone}
use Rattle.git_index.specs.declared.entry.Entry.{Entry}
use Rattle.git_config.specs.declared.setting.Setting.{Setting}
use Rattle.git_config.specs.Text.{behind_blanks, line_end}
use Rattle.git_config.specs.Header.{plain_head, sub_at, quoted_head_at, named_at, header_at}
use Rattle.git_config.specs.Value.{value_from}
use Rattle.git_config.specs.Reading.{keyed_at, setting_at, after_header, after_setting, step_from, step_at}
use Rattle.git_config.specs.Reading.{settings_at, text_at, config_at}
use Rattle.eol_convert.specs.declared.setting.AutoCrlf.TheVariants as crlf
use Rattle.eol_convert.specs.declared.setting.EolSetting.TheVariants as eol
use Rattle.settings_view.specs.declared.view.Driver.{Driver}
use Rattle.settings_view.specs.declared.view.Settings.{Settings}
use Rattle.settings_view.specs.Value.{is_word, is_true_word, is_false_word}
use Rattle.settings_view.specs.Keys.{is_key, last_value}
use Rattle.settings_view.specs.Drivers.{names_of, is_driver_key, said_of}
use Rattle.settings_view.specs.View.{settings_of}
use Rattle.attr_stack.specs.declared.files.OuterFiles.{OuterFiles}
use Rattle.attr_line.specs.File.{attributes_at}
use Rattle.checkout_plan.specs.declared.path_plan.PathPlan.{PathPlan}
use Rattle.checkout_plan.specs.AttributeFiles.{attribute_entries, attribute_files}
use Rattle.checkout_plan.specs.Making.{max_attributes, max_drivers}
use Rattle.checkout_plan.specs.Paths.{asked_paths, is_used, used_from, plan_of}
use Rattle.rehearsal.specs.Paths.{in_order}
use Rattle.rehearsal.specs.Repository.{File, attributes, attributes_name, config, file, files, entry_of, entries, IsRepository}
use Rattle.rehearsal.specs.Repository.{FilesHaveAnIndex, AttributesAreRight}
use Rattle.checkout_engine.specs.Complete.{IsKnown, IsRightFile, IsValid}

-- what the configuration of a rehearsal says, key by key
said : List Setting
said =
    record { section = codes "checkout"; sub = None; key = codes "workers"; value = Some (codes "4") }
    ∷ record {
      section = codes "checkout";
      sub = None;
      key = codes "thresholdforparallelism";
      value = Some (codes "1");
    }
    ∷ record {
      section = codes "filter";
      sub = Some (codes "alpha");
      key = codes "process";
      value = Some (codes "alpha");
    }
    ∷ record {
      section = codes "filter";
      sub = Some (codes "alpha");
      key = codes "required";
      value = Some (codes "true");
    }
    ∷ record {
      section = codes "filter";
      sub = Some (codes "beta");
      key = codes "process";
      value = Some (codes "beta");
    }
    ∷ []

settings : Settings
settings = record {
  autocrlf = crlf.False;
  eol = eol.Native;
  workers = 4;
  threshold = 1;
  drivers = record { name = codes "alpha"; process = Some (codes "alpha"); required = true }
      ∷ record { name = codes "beta"; process = Some (codes "beta"); required = false }
      ∷ [];
}

reads : config_at config ≡ Ok said
unfolding behind_blanks line_end plain_head sub_at quoted_head_at named_at header_at value_from keyed_at setting_at after_header after_setting step_from step_at settings_at text_at config_at config said
reads = refl

says : settings_of said ≡ Ok settings
unfolding is_word is_true_word is_false_word is_key last_value names_of is_driver_key said_of settings_of said settings
says = refl

-- no more drivers are in use than there are
used_few : (place : ℕ) (paths : List PathPlan) (ds : List Driver) → length (used_from place paths ds) ≤ length ds
used_few place paths [] = omega arith
used_few place paths (d ∷ ds) = by (is_used paths place) (used_few (suc place) paths ds)
  where
    by : (used : Bool) → length (used_from (suc place) paths ds) ≤ length ds
        → length (if used then d ∷ used_from (suc place) paths ds else used_from (suc place) paths ds) ≤ length (d ∷ ds)
    by true h = omega (arith, h)
    by false h = omega (arith, h)

few_drivers : (es : List Entry) (outer : OuterFiles) (contents : List (List ℕ))
    → length (plan_of es settings outer contents).drivers ≤ max_drivers
unfolding plan_of settings
few_drivers es outer contents =
    let asked = asked_paths (attribute_files outer es contents) settings es in
    omega (arith, used_few 0 asked settings.drivers)

-- the attribute file alone is one
none_numbered : (seed : ℕ) (is : List ℕ) → attribute_entries (map entry_of (map (file seed) is)) ≡ []
none_numbered seed [] = refl
none_numbered seed (i ∷ is) = none_numbered seed is

abbrev first : File
first = record { path = codes ".gitattributes"; content = attributes }

one_file : (seed : ℕ) (is : List ℕ) → attribute_entries (entries (files seed is)) ≡ entry_of first ∷ []
one_file seed is = ap (λ (es : List Entry). entry_of first ∷ es) (none_numbered seed is)

short : length attributes ≤ max_attributes
unfolding attributes
short = omega arith

known : {told : Told} (bytes : List ℕ) → told ≡ Raw bytes → IsKnown told
known bytes e = subst IsKnown (sym e) tt

pub tells : {told : Told} (bytes : List ℕ) → told ≡ Raw bytes → TellsBytes told bytes
tells bytes e = subst (λ (t : Told). TellsBytes t bytes) (sym e) refl

pub valid : FilesHaveAnIndex → AttributesAreRight → (seed n : ℕ) → n ≤ 99999 → (told : RepoTold)
    → IsRepository (files seed (in_order n)) told → IsValid told
valid indexed right seed n few told made =
    let is = in_order n in
    record {
      entries = entries (files seed is);
      settings = settings;
      outer = record { info = attributes_at [] true; base = attributes_at [] true };
      contents = attributes ∷ [];
      index = known _ made.index;
      config = known config made.config;
      info = subst IsKnown (sym made.info) tt;
      base = subst IsKnown (sym made.base) tt;
      sources = record {
        index = record { bytes = _; tells = tells _ made.index; is_index = indexed seed n few };
        config = record {
          list = said;
          has = record { bytes = config; has = inl (tells config made.config); reads = reads };
          says = says;
        };
        info = record {
          bytes = [];
          has = inr (subst TellsNone (sym made.info) tt, refl);
          within = omega arith;
          says = refl;
        };
        base = record {
          bytes = [];
          has = inr (subst TellsNone (sym made.base) tt, refl);
          within = omega arith;
          says = refl;
        };
      };
      files = subst (λ (es : List Entry). AllZip (IsRightFile told.object) es (attributes ∷ [])) (sym (one_file seed is))
          ((record { raw = _; there = made.object attributes_name ∙ right.there seed is; right = right.right }, short), tt);
      few = few_drivers _ _ _;
    }
