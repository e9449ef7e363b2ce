use Rattle.std.proofs.Common.{take}
use Rattle.std.proofs.lemmas.List.{take_all}
use Rattle.settings_view.proofs.Drafts.{names_start, names_step, said_start, said_step, entries_are}
use Rattle.settings_view.proofs.drivers.drafts.Goals as goal

pub loop-setting-init : goal.loop-setting-init
loop-setting-init c = record {
  names = names_start c.new-drafts.result c.new-drafts.ensures.empty;
  said = said_start c.new-drafts.result c.new-drafts.ensures.empty;
  ordered = c.new-drafts.ensures.ordered;
}

pub loop-setting-preserved : goal.loop-setting-preserved
loop-setting-preserved c = record {
  names = names_step c.args.settings.now c.loop-setting.setting-index c.setting-item.result c.loop-setting.drafts c.take_setting.new.drafts c.loop-setting-test.true c.setting-item.is c.loop-setting.invariant.names c.in_ok-take_setting.ensures.names;
  said = said_step c.args.settings.now c.loop-setting.setting-index c.setting-item.result c.loop-setting.drafts c.take_setting.new.drafts c.loop-setting-test.true c.setting-item.is c.loop-setting.invariant.said c.in_ok-take_setting.ensures.said;
  ordered = c.in_ok-take_setting.ensures.ordered c.loop-setting.invariant.ordered;
}

pub returns : goal.returns
returns c =
    let whole = take_all c.loop-setting.setting-index c.args.settings.now c.loop-setting-test.false in
    rw whole at (entries_are c.loop-setting.drafts (take c.loop-setting.setting-index c.args.settings.now) c.loop-setting.invariant.ordered c.loop-setting.invariant.names c.loop-setting.invariant.said)
