use Rattle.core_laws.proofs.Moves.{may_claim}
use Rattle.core_laws.proofs.laws.a_waiting_path_may_be_claimed.Goals as goal

pub returns : goal.returns
returns c k p a raw r there is few = may_claim k p a raw r there is few
