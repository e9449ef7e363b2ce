use Rattle.git_trees.proofs.Standing as standing
use Rattle.git_trees.proofs.walk.leaves_can_stand.Goals as goal

pub returns : goal.returns
returns c = standing.leaves_can_stand
