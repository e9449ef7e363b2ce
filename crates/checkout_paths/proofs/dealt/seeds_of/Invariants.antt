use Rattle.std.proofs.Common.{◌≡◌, ◌+◌, ◌≤◌, length, take, vec_capacity}
use Rattle.checkout_book.specs.Sights.{sight}
use Rattle.checkout_book.specs.Reserving.{AreNew}
use Rattle.writer_pool.specs.Pools.{seed_cards}
use Rattle.checkout_paths.specs.Dealing.{AreSeedsFor, AreIdle}
use Rattle.checkout_paths.proofs.dealt.seeds_of.Given as goal

abbrev pub invariant-loop-place : goal.invariant-loop-place
invariant-loop-place g l = record {
  told : g.R.Repo.told l.repo ≡ g.R.Repo.told l.initial.repo;
  starts : g.P.Spawner.told l.spawner ≡ g.P.Spawner.told l.initial.spawner;
  repo : g.R.Repo.seen l.repo ≡ record (g.R.Repo.seen l.initial.repo) { out = (g.R.Repo.seen l.initial.repo).out + length (seed_cards l.desks.items) };
  tree : g.T.Worktree.seen l.tree ≡ record (g.T.Worktree.seen l.initial.tree) { out = (g.T.Worktree.seen l.initial.tree).out + length (seed_cards l.desks.items) };
  spawner : g.P.Spawner.seen l.spawner ≡ record (g.P.Spawner.seen l.initial.spawner) { out = (g.P.Spawner.seen l.initial.spawner).out + length l.desks.items };
  room : length l.drivers ≤ vec_capacity l.desks;
  count : length l.desks.items ≡ l.place;
  new : AreNew (sight g.R.Blob.Blob.told g.R.Blob.Blob.seen g.T.Leaf.Leaf.seen) (seed_cards l.desks.items);
  idle : AreIdle g.P.Starter.Starter.seen l.desks.items;
  seeds : AreSeedsFor g.P.Starter.Starter.seen (sight g.R.Blob.Blob.told g.R.Blob.Blob.seen g.T.Leaf.Leaf.seen) (g.P.Spawner.told l.initial.spawner) (g.R.Repo.told l.initial.repo).object l.paths 0
      (take l.place l.drivers) l.desks.items;
}
