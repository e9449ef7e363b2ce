use Rattle.std.proofs.Common.{◌≡◌, true, length}
use Rattle.git_index.specs.Folders.{paths, are_numbers}
use Rattle.git_index.proofs.Stack.{ClosedSoFar}
use Rattle.git_index.proofs.folders.close_before.Given as goal

abbrev pub invariant-loop-last : goal.invariant-loop-last
invariant-loop-last l = record {
  so_far : ClosedSoFar l.path (paths l.entries l.initial.stack.items) (paths l.entries l.stack.items);
  known : are_numbers l.entries l.initial.stack.items ≡ true → are_numbers l.entries l.stack.items ≡ true;
}

abbrev pub decreases-loop-last : goal.decreases-loop-last
decreases-loop-last l = length l.stack.items
