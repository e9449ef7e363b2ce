use Rattle.std.proofs.Common.{◌≡◌, ◌+◌, ◌≤◌, length, take, vec_capacity}
use Rattle.std.specs.List.{filter}
use Rattle.checkout_book.specs.Sights.{sight}
use Rattle.checkout_paths.specs.Cards.{AreCards}
use Rattle.checkout_paths.proofs.PoolCards.{mine}
use Rattle.checkout_paths.proofs.cards.cards_of.Given as goal

abbrev pub invariant-loop-place : goal.invariant-loop-place
invariant-loop-place g l = record {
  told : g.R.Repo.told l.repo ≡ g.R.Repo.told l.initial.repo;
  repo : g.R.Repo.seen l.repo ≡ record (g.R.Repo.seen l.initial.repo) { out = (g.R.Repo.seen l.initial.repo).out + length l.cards.items };
  tree : g.T.Worktree.seen l.tree ≡ record (g.T.Worktree.seen l.initial.tree) { out = (g.T.Worktree.seen l.initial.tree).out + length l.cards.items };
  room : length (filter (mine l.owner) l.paths) ≤ vec_capacity l.cards;
  cards : AreCards l.owner (sight g.R.Blob.Blob.told g.R.Blob.Blob.seen g.T.Leaf.Leaf.seen) (g.R.Repo.told l.initial.repo).object (take l.place l.paths) l.cards.items;
}
