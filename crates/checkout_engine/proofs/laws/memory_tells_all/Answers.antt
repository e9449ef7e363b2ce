use Rattle.checkout_engine.proofs.ToldObjects.{memory_told}
use Rattle.checkout_engine.proofs.laws.memory_tells_all.Goals as goal

pub returns : goal.returns
returns c = memory_told
