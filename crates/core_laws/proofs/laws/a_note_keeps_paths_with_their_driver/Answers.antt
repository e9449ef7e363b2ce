use Rattle.core_laws.proofs.Moves.{noted}
use Rattle.core_laws.proofs.laws.a_note_keeps_paths_with_their_driver.Goals as goal

pub returns : goal.returns
returns c k x e is h p = noted k x e is h p
