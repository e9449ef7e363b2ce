use Rattle.std.proofs.Common.{◌≡◌, ◌+◌, ◌++◌, ℕ, length}
use Rattle.edge_kit.specs.Seen.{RepoSeen, TreeSeen}
use Rattle.checkout_paths.specs.Made.{HasCards}
use Rattle.checkout_paths.proofs.cards.give_cards.Given as goal

abbrev pub invariant-loop-card : goal.invariant-loop-card
invariant-loop-card g l = record {
  whole : l.yielded ++ l.card-iterator.rest.items ≡ l.fn.cards.items;
  told : g.R.Repo.told l.repo ≡ g.R.Repo.told l.initial.repo;
  blobs : (g.R.Repo.seen l.repo).out + length l.yielded ≡ (g.R.Repo.seen l.initial.repo).out;
  leaves : (g.T.Worktree.seen l.tree).out + length l.yielded ≡ (g.T.Worktree.seen l.initial.tree).out;
  back : (n : ℕ) (repo0 : RepoSeen) (tree0 : TreeSeen) → HasCards (n + length l.fn.cards.items) repo0 (g.R.Repo.seen l.initial.repo) tree0 (g.T.Worktree.seen l.initial.tree)
      → HasCards (n + length l.card-iterator.rest.items) repo0 (g.R.Repo.seen l.repo) tree0 (g.T.Worktree.seen l.tree);
  can : (goal.iterator-loop-card g).can_next l.card-iterator;
  ends : (goal.iterator-loop-card g).is_finite l.card-iterator;
}
