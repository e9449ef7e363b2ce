use Rattle.driver_line.proofs.Ends.{asked_may}
use Rattle.driver_line.proofs.line.ask_in.Goals as goal

pub returns-clause-may : goal.returns-clause-may
returns-clause-may g c = asked_may _ _ _ _ _ _ c.ask.ensures.exchange
