use Rattle.core_laws.proofs.Moves.{shape}
use Rattle.core_laws.proofs.laws.a_history_keeps_its_size.Goals as goal

pub returns : goal.returns
returns c starts workers drivers history x run = shape starts workers drivers history x run
