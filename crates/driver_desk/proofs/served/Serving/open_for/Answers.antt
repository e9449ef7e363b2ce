use Rattle.driver_desk.proofs.OnDesk.{not_none, opened_already}
use Rattle.driver_desk.proofs.Serves.{is_none}
use Rattle.driver_desk.proofs.served.Serving.open_for.Goals as goal

pub open_new-requires-clause-none : goal.open_new-requires-clause-none
open_new-requires-clause-none g c κs within = is_none _ (rw c.if-is_open.false at c.is_open.ensures)

pub returns-then-is_open : goal.returns-then-is_open
returns-then-is_open g c = record { opens = opened_already _ _ _ _ c.requires.on (not_none _ (rw c.if-is_open.true at c.is_open.ensures)) }
