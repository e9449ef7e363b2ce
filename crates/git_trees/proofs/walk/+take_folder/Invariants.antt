use Rattle.std.proofs.Common.{◌≡◌}
use Rattle.git_trees.proofs.Taking.{IsTaking}
use Rattle.git_trees.proofs.walk.+take_folder.Given as goal

abbrev pub decreases-take_folder : goal.decreases-take_folder
decreases-take_folder g l = l.step.left

abbrev pub invariant-loop-entry : goal.invariant-loop-entry
invariant-loop-entry g l =
    (g.S.TreeSource.told l.source ≡ g.S.TreeSource.told l.fn.source)
    × (g.S.TreeSource.faults l.source ≡ g.S.TreeSource.faults l.fn.source)
    × IsTaking (g.S.TreeSource.told l.fn.source) l.step l.folder l.entry-items l.entry-index l.fn.leaves.items l.leaves.items
