use Rattle.std.proofs.Common.{rules, arith}
use Rattle.std.proofs.lemmas.Grind.{common_steps}
use Rattle.settings_view.specs.Keys.{is_key, last_value}
use Rattle.settings_view.proofs.Last.{last_value_more}
use Rattle.settings_view.proofs.keys.last_value.Goals as goal

pub loop-setting-init : goal.loop-setting-init
unfolding last_value
loop-setting-init c = search rules

pub loop-setting-preserved : goal.loop-setting-preserved
loop-setting-preserved c =
    grind (arith, common_steps, c.setting-item.is, last_value_more (is_key c.args.section.now c.args.key.now) c.args.settings.now c.loop-setting.setting-index c.setting-item.result c.loop-setting-test.true)
