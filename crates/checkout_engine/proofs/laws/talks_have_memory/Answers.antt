use Rattle.checkout_engine.proofs.Alike.{had_memory}
use Rattle.checkout_engine.proofs.laws.talks_have_memory.Goals as goal

pub returns : goal.returns
returns c = had_memory
