use Rattle.git_index.proofs.SpelledWhole.{can_stand}
use Rattle.git_index.proofs.index.entries_can_stand.Goals as goal

pub returns : goal.returns
returns c = can_stand
