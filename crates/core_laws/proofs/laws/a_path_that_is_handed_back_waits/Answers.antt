use Rattle.core_laws.proofs.Moves.{handed_back}
use Rattle.core_laws.proofs.laws.a_path_that_is_handed_back_waits.Goals as goal

pub returns : goal.returns
returns c k x p h = handed_back k x p h
