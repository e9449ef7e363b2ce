use Rattle.settings_view.proofs.Drafts.{driver_start, driver_step, driver_end}
use Rattle.settings_view.proofs.Rising.{drivers_stand_by_name}
use Rattle.settings_view.proofs.drivers.drivers_told.Goals as goal

pub loop-name-init : goal.loop-name-init
loop-name-init c = (tt, tt, driver_start c.args.single c.args.settings.now c.in_ok-drafts.drafts c.into_iter-name-iterator.result c.new-drivers.result.items c.in_ok-drafts.ensures c.into_iter-name-iterator.ensures.into_iter_gives.0 c.new-drivers.ensures.items)

pub loop-name-preserved : goal.loop-name-preserved
loop-name-preserved c = (
  tt,
  tt,
  driver_step c.args.single c.args.settings.now c.loop-name.drivers.items c.push.new.self.items c.in_ok-driver_from.field-0 (c.in-Some.name, c.in-Some.draft) c.loop-name.name-iterator c.next.new.self
      c.loop-name.invariant.2 c.in-Some.ensures.steps c.in_ok-driver_from.ensures c.in_ok-push.ensures.items,
)

pub returns-clause-rising : goal.returns-clause-rising
returns-clause-rising c =
    let whole = driver_end c.args.single c.args.settings.now c.loop-name.drivers.items c.loop-name.name-iterator c.loop-name.invariant.2 c.in-None.ensures.steps.0 in
    rw c.from_vec.ensures (drivers_stand_by_name c.args.single c.args.settings.now c.loop-name.drivers.items whole)
