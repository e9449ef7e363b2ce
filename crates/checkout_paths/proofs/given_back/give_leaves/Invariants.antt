use Rattle.std.proofs.Common.{◌≡◌, ◌+◌, ◌++◌, [], length, map}
use Rattle.edge_kit.specs.Joins.{leaf_back}
use Rattle.checkout_paths.specs.Cards.{JoinAll}
use Rattle.checkout_paths.proofs.given_back.give_leaves.Given as goal

abbrev pub invariant-loop-leaf : goal.invariant-loop-leaf
invariant-loop-leaf g l = record {
  whole : l.yielded ++ l.leaf-iterator.rest.items ≡ l.fn.leaves.items;
  faults : (g.T.Worktree.seen l.tree).faults ≡ (g.T.Worktree.seen l.initial.tree).faults;
  out : (g.T.Worktree.seen l.tree).out + length l.yielded ≡ (g.T.Worktree.seen l.initial.tree).out;
  back : (g.T.Worktree.seen l.tree).returned
      ≡ (g.T.Worktree.seen l.initial.tree).returned ++ map (λ x. leaf_back (g.T.Leaf.Leaf.seen x)) l.yielded;
  files : JoinAll (map (λ x. g.T.Leaf.Leaf.seen x) l.yielded) (g.T.Worktree.seen l.initial.tree).files (g.T.Worktree.seen l.tree).files;
  none : l.yielded ≡ [] → g.T.Worktree.seen l.tree ≡ g.T.Worktree.seen l.initial.tree;
  can : (goal.iterator-loop-leaf g).can_next l.leaf-iterator;
  ends : (goal.iterator-loop-leaf g).is_finite l.leaf-iterator;
}
