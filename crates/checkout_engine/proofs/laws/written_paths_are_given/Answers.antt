use Rattle.checkout_engine.proofs.Given.{written_given}
use Rattle.checkout_engine.proofs.laws.written_paths_are_given.Goals as goal

pub returns : goal.returns
returns c = written_given
