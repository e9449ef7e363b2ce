use Rattle.std.proofs.Common.{◌≡◌, ◌+◌, ◌++◌, ℕ, length}
use Rattle.edge_kit.specs.Seen.{RepoSeen, TreeSeen}
use Rattle.edge_kit.specs.Starters.{SpawnerSeen}
use Rattle.writer_pool.specs.Pools.{seed_cards}
use Rattle.checkout_paths.specs.Made.{HasCards, HasStarters}
use Rattle.checkout_paths.proofs.dealt.give_seeds.Given as goal

abbrev pub invariant-loop-seed : goal.invariant-loop-seed
invariant-loop-seed g l = record {
  whole : l.yielded ++ l.seed-iterator.rest.items ≡ l.fn.desks.items;
  told : g.R.Repo.told l.repo ≡ g.R.Repo.told l.initial.repo;
  starts : g.P.Spawner.told l.spawner ≡ g.P.Spawner.told l.initial.spawner;
  blobs : (g.R.Repo.seen l.repo).out + length (seed_cards l.yielded) ≡ (g.R.Repo.seen l.initial.repo).out;
  leaves : (g.T.Worktree.seen l.tree).out + length (seed_cards l.yielded) ≡ (g.T.Worktree.seen l.initial.tree).out;
  starters : (g.P.Spawner.seen l.spawner).out + length l.yielded ≡ (g.P.Spawner.seen l.initial.spawner).out;
  cards_back : (n : ℕ) (repo0 : RepoSeen) (tree0 : TreeSeen) → HasCards (n + length (seed_cards l.fn.desks.items)) repo0 (g.R.Repo.seen l.initial.repo) tree0 (g.T.Worktree.seen l.initial.tree)
      → HasCards (n + length (seed_cards l.seed-iterator.rest.items)) repo0 (g.R.Repo.seen l.repo) tree0 (g.T.Worktree.seen l.tree);
  starters_back : (n : ℕ) (spawner0 : SpawnerSeen) → HasStarters (n + length l.fn.desks.items) spawner0 (g.P.Spawner.seen l.initial.spawner)
      → HasStarters (n + length l.seed-iterator.rest.items) spawner0 (g.P.Spawner.seen l.spawner);
  can : (goal.iterator-loop-seed g).can_next l.seed-iterator;
  ends : (goal.iterator-loop-seed g).is_finite l.seed-iterator;
}
