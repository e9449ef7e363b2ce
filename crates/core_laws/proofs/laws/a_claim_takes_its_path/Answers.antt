use Rattle.core_laws.proofs.Moves.{claimed}
use Rattle.core_laws.proofs.laws.a_claim_takes_its_path.Goals as goal

pub returns : goal.returns
returns c k x p a h = claimed k x p a h
