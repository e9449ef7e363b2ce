use Rattle.std.proofs.Common.{◌≡◌, take, option_copied}
use Rattle.settings_view.specs.Keys.{is_key, last_value}
use Rattle.settings_view.proofs.keys.last_value.Given as goal

abbrev pub invariant-loop-setting : goal.invariant-loop-setting
invariant-loop-setting l = option_copied l.last ≡ last_value (is_key l.section l.key) (take l.setting-index l.settings)
