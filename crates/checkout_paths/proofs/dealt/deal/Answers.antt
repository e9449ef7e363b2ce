use Rattle.std.proofs.Common.{◌++◌, ℕ, length, length-append, sym, ap, ◌∙◌, subst, arith}
use Rattle.edge_kit.specs.Seen.{RepoSeen, TreeSeen}
use Rattle.edge_kit.specs.Told.{RepoTold}
use Rattle.checkout_book.specs.Sights.{sight}
use Rattle.writer_pool.specs.Pools.{seed_cards}
use Rattle.checkout_paths.specs.Dealing.{AreSeedsFor}
use Rattle.checkout_paths.specs.Made.{HasCards}
use Rattle.checkout_paths.proofs.Made.{on_err, no_starters, other_way, more_made, made_all}
use Rattle.checkout_paths.proofs.OpenPaths.{desk_count}
use Rattle.checkout_paths.proofs.SeedSteps.{new_then}
use Rattle.checkout_paths.proofs.dealt.deal.Goals as goal

pub returns-in_err-pool-clause-none : goal.returns-in_err-pool-clause-none
returns-in_err-pool-clause-none g c = on_err _ c.from_residual.result (c.in_err-pool.ensures.none, no_starters (g.P.Spawner.seen c.args.spawner.now))

pub cards_of-requires-clause-few : goal.cards_of-requires-clause-few
cards_of-requires-clause-few g c κs within = c.requires.few

pub cards_of-requires-clause-texts : goal.cards_of-requires-clause-texts
cards_of-requires-clause-texts g c κs within = c.requires.texts

pub returns-in-Ok-clause-desks : goal.returns-in-Ok-clause-desks
returns-in-Ok-clause-desks g c =
    let see = sight g.R.Blob.Blob.told g.R.Blob.Blob.seen g.T.Leaf.Leaf.seen in
    let work = c.args.work.now in
    subst (λ (told : RepoTold). AreSeedsFor g.P.Starter.Starter.seen see (g.P.Spawner.told c.args.spawner.now) told.object work.paths.now 0 work.drivers.now c.in-Ok.desks.items)
    c.in_ok-pool.ensures.told c.in-Ok.ensures.seeds

pub returns-in-Ok-clause-made : goal.returns-in-Ok-clause-made
returns-in-Ok-clause-made g c =
    let see = sight g.R.Blob.Blob.told g.R.Blob.Blob.seen g.T.Leaf.Leaf.seen in
    let pool = c.in_ok-pool.pool.items in
    let desks = c.in-Ok.desks.items in
    let work = c.args.work.now in
    let count = desk_count g.P.Starter.Starter.seen see (g.P.Spawner.told c.args.spawner.now) (g.R.Repo.told c.cards_of.new.repo).object work.paths.now 0 work.drivers.now desks c.in-Ok.ensures.seeds in
    made_all (length pool) (length (seed_cards desks)) (length desks) (length (pool ++ seed_cards desks)) (length work.drivers.now) (g.R.Repo.seen c.args.repo.now) (g.R.Repo.seen c.cards_of.new.repo) (g.R.Repo.seen c.seeds_of.new.repo)
    (g.T.Worktree.seen c.args.tree.now) (g.T.Worktree.seen c.cards_of.new.tree) (g.T.Worktree.seen c.seeds_of.new.tree) (g.P.Spawner.seen c.args.spawner.now) (g.P.Spawner.seen c.seeds_of.new.spawner)
    c.in_ok-pool.ensures.repo c.in_ok-pool.ensures.tree c.in-Ok.ensures.made (length-append pool (seed_cards desks)) (sym count.1)

pub returns-in-Ok-clause-new : goal.returns-in-Ok-clause-new
returns-in-Ok-clause-new g c =
    new_then (sight g.R.Blob.Blob.told g.R.Blob.Blob.seen g.T.Leaf.Leaf.seen) c.in_ok-pool.pool.items (seed_cards c.in-Ok.desks.items) c.in_ok-pool.ensures.new c.in-Ok.ensures.new

pub returns-in-Ok-clause-told : goal.returns-in-Ok-clause-told
returns-in-Ok-clause-told g c = c.in-Ok.ensures.told ∙ c.in_ok-pool.ensures.told

pub returns-in-Ok-clause-starts : goal.returns-in-Ok-clause-starts
returns-in-Ok-clause-starts g c = c.in-Ok.ensures.starts

pub returns-in-Ok-clause-pool : goal.returns-in-Ok-clause-pool
returns-in-Ok-clause-pool g c = c.in_ok-pool.ensures.cards

pub give_cards-requires-clause-new : goal.give_cards-requires-clause-new
give_cards-requires-clause-new g c κs within = c.in_ok-pool.ensures.new

pub give_cards-requires-clause-blobs : goal.give_cards-requires-clause-blobs
give_cards-requires-clause-blobs g c κs within =
    omega (arith, ap (λ (r : RepoSeen). r.out) c.in-Err.ensures.none.0.repo_kept, ap (λ (r : RepoSeen). r.out) c.in_ok-pool.ensures.repo)

pub give_cards-requires-clause-leaves : goal.give_cards-requires-clause-leaves
give_cards-requires-clause-leaves g c κs within =
    omega (arith, ap (λ (t : TreeSeen). t.out) c.in-Err.ensures.none.0.tree_kept, ap (λ (t : TreeSeen). t.out) c.in_ok-pool.ensures.tree)

pub returns-in-Err-clause-none : goal.returns-in-Err-clause-none
returns-in-Err-clause-none g c =
    let repo = g.R.Repo.seen c.args.repo.now in
    let tree = g.T.Worktree.seen c.args.tree.now in
    let n = length c.in_ok-pool.pool.items in (
      c.give_cards.ensures.back 0 repo tree
          (subst (λ (k : ℕ). HasCards k repo (g.R.Repo.seen c.seeds_of.new.repo) tree (g.T.Worktree.seen c.seeds_of.new.tree)) (other_way n)
          (more_made n 0 repo (g.R.Repo.seen c.cards_of.new.repo) (g.R.Repo.seen c.seeds_of.new.repo) tree (g.T.Worktree.seen c.cards_of.new.tree) (g.T.Worktree.seen c.seeds_of.new.tree)
          c.in_ok-pool.ensures.repo c.in_ok-pool.ensures.tree c.in-Err.ensures.none.0)),
      c.in-Err.ensures.none.1,
    )

pub returns-in-Err-clause-told : goal.returns-in-Err-clause-told
returns-in-Err-clause-told g c = c.give_cards.ensures.told ∙ (c.in-Err.ensures.told ∙ c.in_ok-pool.ensures.told)

pub returns-in-Err-clause-starts : goal.returns-in-Err-clause-starts
returns-in-Err-clause-starts g c = c.in-Err.ensures.starts

pub returns-in_err-pool-clause-told : goal.returns-in_err-pool-clause-told
returns-in_err-pool-clause-told g c = c.in_err-pool.ensures.told
