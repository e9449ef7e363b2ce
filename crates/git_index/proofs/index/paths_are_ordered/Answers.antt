use Rattle.git_index.proofs.PathOrder.{is_before-trans, is_below-cases}
use Rattle.git_index.proofs.index.paths_are_ordered.Goals as goal

pub returns : goal.returns
returns c = record { passes = is_before-trans; entries = is_below-cases }
