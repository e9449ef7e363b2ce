use Rattle.rehearsal.proofs.Blocks.{blocks_alike}
use Rattle.rehearsal.proofs.rehearsed.blocks_are_alike.Goals as goal

pub returns : goal.returns
returns c = blocks_alike
