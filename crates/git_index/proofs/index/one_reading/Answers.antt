use Rattle.git_index.proofs.AgainWhole as whole
use Rattle.git_index.proofs.index.one_reading.Goals as goal

pub returns : goal.returns
returns c = whole.one_reading
