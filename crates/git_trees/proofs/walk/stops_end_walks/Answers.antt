use Rattle.git_trees.proofs.Stopped as stopped
use Rattle.git_trees.proofs.walk.stops_end_walks.Goals as goal

pub returns : goal.returns
returns c = stopped.no_walk
