-- The words of keys and faults.
use Rattle.std.specs.Prelude.{ℕ, List, codes}
use Rattle.settings_view.specs.declared.fault.KeyId.{KeyId}
use Rattle.settings_view.specs.declared.fault.KeyId.TheVariants as key
use Rattle.settings_view.specs.declared.fault.SettingFault.{SettingFault}
use Rattle.settings_view.specs.declared.fault.SettingFault.TheVariants as setting

abbrev pub key_word : KeyId → List ℕ
key_word key.AutoCrlf = codes "autocrlf"
key_word key.Eol = codes "eol"
key_word key.Workers = codes "workers"
key_word key.Threshold = codes "threshold"
key_word key.ObjectFormat = codes "objectformat"
key_word key.Required = codes "required"

-- the word of the key whose value is bad
abbrev pub setting_word : SettingFault → List ℕ
setting_word (setting.BadBool key) = key_word key
setting_word (setting.BadNumber key) = key_word key
setting_word (setting.BadChoice key) = key_word key
setting_word setting.NoMemory = codes "no-memory"
