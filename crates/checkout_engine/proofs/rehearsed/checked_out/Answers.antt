use Rattle.checkout_engine.proofs.Undisturbed.{tried_well}
use Rattle.checkout_engine.proofs.rehearsed.checked_out.Goals as goal

pub returns : goal.returns
returns g c =
    tried_well _ _ _ c.deref.result.now _ _ c.drivers.result.now c.is_disturbed.result c.in_ok-run.ensures c.drivers.ensures c.deref.ensures.value c.is_disturbed.ensures c.if-is_disturbed.false
