use Rattle.std.proofs.Common.{◌≡◌, ◌+◌, ◌++◌, ◌∷◌, [], ℕ, List, Some, length, length-append, append-nil, refl, sym, ap, ◌∙◌, subst, arith}
use Rattle.edge_kit.specs.Seen.{RepoSeen, TreeSeen}
use Rattle.edge_kit.specs.Starters.{Starts, SpawnerSeen}
use Rattle.edge_kit.specs.Told.{RepoTold}
use Rattle.settings_view.specs.declared.view.Driver.{Driver}
use Rattle.checkout_book.specs.Reserving.{AreNew}
use Rattle.checkout_book.specs.Sights.{sight}
use Rattle.writer_pool.specs.Pools.{seed_cards}
use Rattle.checkout_paths.specs.Dealing.{AreIdle, IsSeedFor}
use Rattle.checkout_paths.specs.Made.{HasCards, HasStarters}
use Rattle.checkout_paths.proofs.Made.{on_err, nothing_made, no_starters, none_more, other_way, all_starters, more_made}
use Rattle.checkout_paths.proofs.PoolCards.{cards_new}
use Rattle.checkout_paths.proofs.SeedCards.{cards_then, one_more}
use Rattle.checkout_paths.proofs.SeedSteps.{idle_more, new_idle, step_seed, new_then, all_at}
use Rattle.checkout_paths.proofs.dealt.seeds_of.Goals as goal

pub returns-in_err-desks-clause-told : goal.returns-in_err-desks-clause-told
returns-in_err-desks-clause-told g c = refl

pub returns-in_err-desks-clause-starts : goal.returns-in_err-desks-clause-starts
returns-in_err-desks-clause-starts g c = refl

pub returns-in_err-desks-clause-none : goal.returns-in_err-desks-clause-none
returns-in_err-desks-clause-none g c = on_err _ c.from_residual.result (nothing_made (g.R.Repo.seen c.args.repo.now) (g.T.Worktree.seen c.args.tree.now), no_starters (g.P.Spawner.seen c.args.spawner.now))

pub new_seed-requires-clause-few : goal.new_seed-requires-clause-few
new_seed-requires-clause-few g c κs within = c.requires.few

pub new_seed-requires-clause-texts : goal.new_seed-requires-clause-texts
new_seed-requires-clause-texts g c κs within = c.requires.texts

pub new_seed-requires-clause-command : goal.new_seed-requires-clause-command
new_seed-requires-clause-command g c κs within =
    all_at (λ (x : Driver). (command : List ℕ) × (x.process ≡ Some command)) c.args.work.now.drivers.now c.loop-place.place c.index-drivers-place.result
    c.requires.drivers_are.commands c.loop-place-test.true c.index-drivers-place.is

pub push_reserved-requires : goal.push_reserved-requires
push_reserved-requires g c =
    omega (arith, c.loop-place.invariant.count, c.loop-place.invariant.room, c.loop-place-test.true, c.loop-place.desks.ok.0)

pub give_seeds-requires-clause-unused : goal.give_seeds-requires-clause-unused
give_seeds-requires-clause-unused g c κs within = record { new = c.loop-place.invariant.new; idle = c.loop-place.invariant.idle }

pub give_seeds-requires-clause-out : goal.give_seeds-requires-clause-out
give_seeds-requires-clause-out g c κs within =
    let i = c.loop-place.invariant in
    let none = c.in-Err.ensures.none in
    record {
      blobs = omega (arith, ap (λ (r : RepoSeen). r.out) none.1.repo_kept, ap (λ (r : RepoSeen). r.out) i.repo);
      leaves = omega (arith, ap (λ (t : TreeSeen). t.out) none.1.tree_kept, ap (λ (t : TreeSeen). t.out) i.tree);
      starters_out = omega (arith, ap (λ (s : SpawnerSeen). s.out) none.0, ap (λ (s : SpawnerSeen). s.out) i.spawner);
    }

pub returns-in-Err-clause-none : goal.returns-in-Err-clause-none
returns-in-Err-clause-none g c =
    let repo = g.R.Repo.seen c.args.repo.now in
    let tree = g.T.Worktree.seen c.args.tree.now in
    let spawner = g.P.Spawner.seen c.args.spawner.now in
    let repo' = g.R.Repo.seen c.new_seed.new.repo in
    let tree' = g.T.Worktree.seen c.new_seed.new.tree in
    let desks = c.loop-place.desks.items in
    let n = length (seed_cards desks) in
    let i = c.loop-place.invariant in
    let none = c.in-Err.ensures.none in
    let back = c.give_seeds.ensures.back in (
      back.cards_back 0 repo tree
          (subst (λ (k : ℕ). HasCards k repo repo' tree tree') (other_way n)
          (more_made n 0 repo (g.R.Repo.seen c.loop-place.repo) repo' tree (g.T.Worktree.seen c.loop-place.tree) tree' i.repo i.tree none.1)),
      back.starters_back 0 spawner
          (subst (λ (k : ℕ). HasStarters k spawner (g.P.Spawner.seen c.new_seed.new.spawner)) (none_more (length desks))
          (subst (λ (s : SpawnerSeen). HasStarters (length desks) spawner s) (sym none.0)
          (all_starters (length desks) spawner (g.P.Spawner.seen c.loop-place.spawner) i.spawner))),
    )

pub returns-in-Err-clause-told : goal.returns-in-Err-clause-told
returns-in-Err-clause-told g c = c.give_seeds.ensures.told ∙ (c.in-Err.ensures.told ∙ c.loop-place.invariant.told)

pub returns-in-Err-clause-starts : goal.returns-in-Err-clause-starts
returns-in-Err-clause-starts g c = c.give_seeds.ensures.starts ∙ (c.in-Err.ensures.starts ∙ c.loop-place.invariant.starts)

pub loop-place-preserved : goal.loop-place-preserved
loop-place-preserved g c =
    let see = sight g.R.Blob.Blob.told g.R.Blob.Blob.seen g.T.Leaf.Leaf.seen in
    let starter = g.P.Starter.Starter.seen in
    let i = c.loop-place.invariant in
    let n = c.loop-place.place in
    let desks = c.loop-place.desks.items in
    let x = c.in-Ok.seed in
    let driver = c.index-drivers-place.result in
    let made = c.in-Ok.ensures.made in
    let grew = c.push_reserved.ensures.items in
    let repo = g.R.Repo.seen c.args.repo.now in
    let tree = g.T.Worktree.seen c.args.tree.now in
    let spawner = g.P.Spawner.seen c.args.spawner.now in
    let paths = c.args.work.now.paths.now in
    let cards : length (seed_cards c.push_reserved.new.self.items) ≡ length (seed_cards desks) + length x.cards.items = ap (λ l. length (seed_cards l)) grew ∙ one_more desks x in
    let blobs : ◌≡◌ {A = ℕ} (repo.out + length (seed_cards desks) + length x.cards.items) (repo.out + length (seed_cards c.push_reserved.new.self.items)) = omega (arith, cards) in
    let leaves : ◌≡◌ {A = ℕ} (tree.out + length (seed_cards desks) + length x.cards.items) (tree.out + length (seed_cards c.push_reserved.new.self.items)) = omega (arith, cards) in
    let starters : ◌≡◌ {A = ℕ} (spawner.out + length desks + 1) (spawner.out + length c.push_reserved.new.self.items) = omega (arith, ap length grew, length-append desks (x ∷ [])) in
    let one : IsSeedFor starter see (g.P.Spawner.told c.args.spawner.now) (g.R.Repo.told c.args.repo.now).object paths n driver x =
    subst (λ (ahead : List ℕ → Starts). IsSeedFor starter see ahead (g.R.Repo.told c.args.repo.now).object paths n driver x) i.starts
    (subst (λ (told : RepoTold). IsSeedFor starter see (g.P.Spawner.told c.loop-place.spawner) told.object paths n driver x) i.told c.in-Ok.ensures.seed) in
    record {
      told = c.in-Ok.ensures.told ∙ i.told;
      starts = c.in-Ok.ensures.starts ∙ i.starts;
      repo = made.repo_kept ∙ ap (λ (r : RepoSeen). record r { out = r.out + length x.cards.items }) i.repo ∙ ap (λ (k : ℕ). record repo { out = k }) blobs;
      tree = made.tree_kept ∙ ap (λ (t : TreeSeen). record t { out = t.out + length x.cards.items }) i.tree ∙ ap (λ (k : ℕ). record tree { out = k }) leaves;
      spawner = made.spawner_kept ∙ ap (λ (s : SpawnerSeen). record s { out = s.out + 1 }) i.spawner ∙ ap (λ (k : ℕ). record spawner { out = k }) starters;
      room = omega (arith, c.push_reserved.ensures.capacity, i.room);
      count = omega (arith, ap length grew, length-append desks (x ∷ []), i.count);
      new = subst (λ l. AreNew see (seed_cards l)) (sym grew) (subst (λ l. AreNew see l) (sym (cards_then desks (x ∷ [])))
          (new_then see (seed_cards desks) (x.cards.items ++ []) i.new (subst (λ l. AreNew see l) (sym (append-nil x.cards.items)) (cards_new (Some n) see (g.R.Repo.told c.args.repo.now).object paths x.cards.items c.requires.texts one.cards))));
      idle = subst (λ l. AreIdle starter l) (sym grew) (idle_more starter desks x i.idle (new_idle _ _ _ c.in-Ok.ensures.seed.starter_is));
      seeds = step_seed starter see (g.P.Spawner.told c.args.spawner.now) (g.R.Repo.told c.args.repo.now).object paths c.args.work.now.drivers.now n driver desks _ x c.loop-place-test.true c.index-drivers-place.is i.seeds one grew;
    }

pub returns-clause-told : goal.returns-clause-told
returns-clause-told g c = c.loop-place.invariant.told

pub returns-clause-starts : goal.returns-clause-starts
returns-clause-starts g c = c.loop-place.invariant.starts

pub returns-clause-new : goal.returns-clause-new
returns-clause-new g c = c.loop-place.invariant.new
