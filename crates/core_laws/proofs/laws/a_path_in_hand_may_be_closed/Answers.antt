use Rattle.core_laws.proofs.Moves.{held_closes}
use Rattle.core_laws.proofs.laws.a_path_in_hand_may_be_closed.Goals as goal

pub returns : goal.returns
returns c k p a raw o v h may = held_closes k p a raw o v h may
