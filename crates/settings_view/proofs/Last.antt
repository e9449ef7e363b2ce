-- The last value, setting by setting.
use Rattle.std.proofs.Common.{◌≡◌, ℕ, ◌+◌, ◌<◌, Bool, List, length, get_or, take}
use Rattle.std.proofs.lemmas.List.Sums.{fold_more}
use Rattle.git_config.specs.declared.setting.Setting.{Setting}
use Rattle.settings_view.specs.Keys.{later, last_value}

pub last_value_more : (test : Setting → Bool) (xs : List Setting) (i : ℕ) (d : Setting) → i < length xs → last_value test (take (i + 1) xs) ≡ later test (last_value test (take i xs)) (get_or xs i d)
unfolding last_value
last_value_more test xs i d lt = fold_more (later test) _ xs i d lt
