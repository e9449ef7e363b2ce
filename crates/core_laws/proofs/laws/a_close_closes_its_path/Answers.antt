use Rattle.core_laws.proofs.Moves.{closed}
use Rattle.core_laws.proofs.laws.a_close_closes_its_path.Goals as goal

pub returns : goal.returns
returns c k x p a o h = closed k x p a o h
