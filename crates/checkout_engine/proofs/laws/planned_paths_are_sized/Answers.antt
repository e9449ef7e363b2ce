use Rattle.checkout_engine.proofs.Names.{planned_sized}
use Rattle.checkout_engine.proofs.laws.planned_paths_are_sized.Goals as goal

pub returns : goal.returns
returns c = planned_sized
