use Rattle.std.proofs.Common.{length}
use Rattle.tree_cache.proofs.Parts.{GoesOn}
use Rattle.tree_cache.proofs.folder.+folder_of.Given as goal

abbrev pub decreases-folder_of : goal.decreases-folder_of
decreases-folder_of l = l.left

abbrev pub decreases-loop-entry : goal.decreases-loop-entry
decreases-loop-entry l = length l.rest

abbrev pub invariant-loop-entry : goal.invariant-loop-entry
invariant-loop-entry l =
    GoesOn l.left l.at l.entries l.rest l.content.items l.nodes.items
