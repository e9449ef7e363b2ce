-- The settings of a configuration.
use Rattle.std.specs.Prelude.{List, Result, Ok}
use Rattle.git_config.specs.declared.setting.Setting.{Setting}
use Rattle.settings_view.specs.declared.fault.KeyId.TheVariants.{ObjectFormat}
use Rattle.settings_view.specs.declared.fault.SettingFault.{SettingFault}
use Rattle.settings_view.specs.declared.fault.SettingFault.TheVariants.{BadChoice}
use Rattle.settings_view.specs.declared.view.Settings.{Settings}
use Rattle.settings_view.specs.Fault.{◌>>=◌, want}
use Rattle.settings_view.specs.Keys.{crlf_told, eol_told, workers_told, threshold_told, has_sha1}
use Rattle.settings_view.specs.Drivers.{drivers_told}
use Rattle.settings_view.specs.declared.drivers.SingleRun.TheVariants.{Smudge}

-- the first bad key decides
unfoldable pub settings_of : List Setting → Result Settings SettingFault
settings_of settings = do
  autocrlf ← crlf_told settings
  eol ← eol_told settings
  workers ← workers_told settings
  threshold ← threshold_told settings
  want (has_sha1 settings) (BadChoice ObjectFormat) (do
    drivers ← drivers_told Smudge settings
    Ok (record { autocrlf = autocrlf; eol = eol; workers = workers; threshold = threshold; drivers = drivers }))
