-- The keys, and the last value of each.
use Rattle.std.specs.Prelude.{ℕ, Bool, true, ◌&&◌, List, fold, codes, Option, Some, None, option_map, ok_or}
use Rattle.std.specs.Prelude.{Result, Ok, if◌then◌else◌}
use Rattle.std.specs.Option.{is_none}
use Rattle.std.specs.Str.{bytes_eq}
use Rattle.eol_convert.specs.declared.setting.AutoCrlf.{AutoCrlf}
use Rattle.eol_convert.specs.declared.setting.AutoCrlf.TheVariants.{False}
use Rattle.eol_convert.specs.declared.setting.EolSetting.{EolSetting}
use Rattle.eol_convert.specs.declared.setting.EolSetting.TheVariants.{Native}
use Rattle.git_config.specs.declared.setting.Setting.{Setting}
use Rattle.settings_view.specs.declared.fault.KeyId.TheVariants.{AutoCrlf as AutoCrlfKey, Eol, Workers, Threshold}
use Rattle.settings_view.specs.declared.fault.SettingFault.{SettingFault}
use Rattle.settings_view.specs.declared.fault.SettingFault.TheVariants.{BadNumber, BadChoice}
use Rattle.settings_view.specs.Value.{crlf_of, eol_of, is_sha1}
use Rattle.settings_view.specs.Number.{number_of, workers_of, threshold_of}

-- a key in a section without a subsection, both in lower case
unfoldable pub is_key : List ℕ → List ℕ → Setting → Bool
is_key section key s = bytes_eq s.section section && is_none s.sub && bytes_eq s.key key

-- each setting that passes the test replaces the one before
abbrev pub later : (Setting → Bool) → Option (Option (List ℕ)) → Setting → Option (Option (List ℕ))
later test before s = if test s then Some s.value else before

-- the value of the last setting that passes
unfoldable pub last_value : (Setting → Bool) → List Setting → Option (Option (List ℕ))
last_value test settings = fold (later test) None settings

-- what a key says: the default if the key is absent, and the fault if its value says nothing
abbrev pub told : {A : Type 0} → A → (Option (List ℕ) → Option A) → SettingFault → Option (Option (List ℕ))
    → Result A SettingFault
told default read fault None = Ok default
told default read fault (Some value) = ok_or (read value) fault

abbrev pub crlf_told : List Setting → Result AutoCrlf SettingFault
crlf_told settings =
    told False crlf_of (BadChoice AutoCrlfKey) (last_value (is_key (codes "core") (codes "autocrlf")) settings)

abbrev pub eol_told : List Setting → Result EolSetting SettingFault
eol_told settings = told Native eol_of (BadChoice Eol) (last_value (is_key (codes "core") (codes "eol")) settings)

abbrev pub workers_at : Option (List ℕ) → Option ℕ
workers_at value = option_map workers_of (number_of value)

abbrev pub workers_told : List Setting → Result ℕ SettingFault
workers_told settings =
    told 1 workers_at (BadNumber Workers) (last_value (is_key (codes "checkout") (codes "workers")) settings)

abbrev pub threshold_at : Option (List ℕ) → Option ℕ
threshold_at value = option_map threshold_of (number_of value)

abbrev pub threshold_told : List Setting → Result ℕ SettingFault
threshold_told settings =
    told 100 threshold_at (BadNumber Threshold)
    (last_value (is_key (codes "checkout") (codes "thresholdforparallelism")) settings)

abbrev pub is_sha1_or_absent : Option (Option (List ℕ)) → Bool
is_sha1_or_absent None = true
is_sha1_or_absent (Some value) = is_sha1 value

-- objects are named by SHA-1
abbrev pub has_sha1 : List Setting → Bool
has_sha1 settings = is_sha1_or_absent (last_value (is_key (codes "extensions") (codes "objectformat")) settings)
