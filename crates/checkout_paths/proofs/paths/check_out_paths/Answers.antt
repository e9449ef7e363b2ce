use Rattle.std.proofs.Common.{◌≡◌, ◌+◌, ◌++◌, ℕ, List, [], None, length, refl, sym, ap, ◌∙◌, subst, inl, inr, arith}
use Rattle.checkout_core.specs.declared.path.Start.{Start}
use Rattle.checkout_core.specs.States.{AreBelow}
use Rattle.checkout_book.specs.Sights.{sight}
use Rattle.std.specs.Prelude.{slice_get}
use Rattle.edge_kit.specs.Seen.{RepoSeen, TreeSeen}
use Rattle.edge_kit.specs.Starters.{SpawnerSeen}
use Rattle.writer_pool.specs.Ends.{IsRun, AreEnds}
use Rattle.writer_pool.specs.Pools.{AreSeeds, AreStartersBack, seed_cards}
use Rattle.checkout_paths.specs.Made.{HasMade}
use Rattle.checkout_paths.specs.Workers.{starts_of, workers_for}
use Rattle.checkout_paths.specs.Writing.{workers_at}
use Rattle.checkout_paths.proofs.Made.{on_err, nothing_made, no_starters}
use Rattle.checkout_paths.proofs.OpenPaths.{desk_count, all_count}
use Rattle.checkout_paths.proofs.PoolCards.{cards_pool}
use Rattle.checkout_paths.proofs.Seeds.{below, seeds_are, starters_count}
use Rattle.checkout_paths.proofs.PathsEnd.{counts}
use Rattle.checkout_paths.proofs.DriverTalks.{talks_back}
use Rattle.checkout_paths.proofs.Finished.{finished}
use Rattle.checkout_paths.proofs.paths.check_out_paths.Goals as goal

pub returns-in_err-starts-clause-broken : goal.returns-in_err-starts-clause-broken
returns-in_err-starts-clause-broken g c = on_err _ c.from_residual.result (inl (nothing_made (g.R.Repo.seen c.args.repo.now) (g.T.Worktree.seen c.args.tree.now), no_starters (g.P.Spawner.seen c.args.spawner.now)))

pub deal-requires-after_bounds : goal.deal-requires-after_bounds
deal-requires-after_bounds g c κs within = c.requires.work

pub pool_run-requires-clause-below : goal.pool_run-requires-clause-below
pool_run-requires-clause-below g c κs within =
    let see = sight g.R.Blob.Blob.told g.R.Blob.Blob.seen g.T.Leaf.Leaf.seen in
    let desks = c.in_ok-pool.field-0.desks.items in
    let count = desk_count g.P.Starter.Starter.seen see (g.P.Spawner.told c.args.spawner.now) (g.R.Repo.told c.args.repo.now).object c.args.work.now.paths.now 0 c.args.work.now.drivers.now desks c.in_ok-pool.ensures.desks in
    subst (λ (ss : List Start). AreBelow (length desks) ss) (sym c.in_ok-starts.ensures)
    (subst (λ (k : ℕ). AreBelow k (starts_of c.args.work.now.paths.now)) (sym count.1) (below c.args.work.now.drivers.now c.args.work.now.paths.now c.requires.work.drivers_are.of_paths))

pub pool_run-requires-clause-few_desks : goal.pool_run-requires-clause-few_desks
pool_run-requires-clause-few_desks g c κs within =
    let see = sight g.R.Blob.Blob.told g.R.Blob.Blob.seen g.T.Leaf.Leaf.seen in
    let count = desk_count g.P.Starter.Starter.seen see (g.P.Spawner.told c.args.spawner.now) (g.R.Repo.told c.args.repo.now).object c.args.work.now.paths.now 0 c.args.work.now.drivers.now c.in_ok-pool.field-0.desks.items c.in_ok-pool.ensures.desks in
    omega (arith, count.1, c.requires.work.drivers_are.few)

pub pool_run-requires-clause-pool : goal.pool_run-requires-clause-pool
pool_run-requires-clause-pool g c κs within =
    cards_pool (sight g.R.Blob.Blob.told g.R.Blob.Blob.seen g.T.Leaf.Leaf.seen) (g.R.Repo.told c.args.repo.now).object c.args.work.now.paths.now c.in_ok-starts.starts.items c.in_ok-pool.field-0.pool.items
    c.in_ok-starts.ensures c.in_ok-pool.ensures.pool

pub pool_run-requires-clause-desks : goal.pool_run-requires-clause-desks
pool_run-requires-clause-desks g c κs within =
    let see = sight g.R.Blob.Blob.told g.R.Blob.Blob.seen g.T.Leaf.Leaf.seen in
    let starter = g.P.Starter.Starter.seen in
    let drivers = c.args.work.now.drivers.now in
    subst (λ (ss : List Start). AreSeeds starter ss 0 c.in_ok-pool.field-0.desks.items) (sym c.in_ok-starts.ensures)
    (seeds_are starter see (g.P.Spawner.told c.args.spawner.now) (g.R.Repo.told c.args.repo.now).object c.args.work.now.paths.now drivers 0 drivers c.in_ok-pool.field-0.desks.items
    (λ i x h. let same : ◌≡◌ {A = ℕ} (0 + i) i = omega arith in ap (slice_get drivers) same ∙ h) c.requires.work.drivers_are.of_paths c.requires.ordered c.requires.work.few c.in_ok-pool.ensures.desks)

pub returns-in_err-pooled-clause-broken : goal.returns-in_err-pooled-clause-broken
returns-in_err-pooled-clause-broken g c =
    let see = sight g.R.Blob.Blob.told g.R.Blob.Blob.seen g.T.Leaf.Leaf.seen in
    let dealt = c.in_ok-pool.field-0 in
    let all = all_count g.P.Starter.Starter.seen see (g.P.Spawner.told c.args.spawner.now) (g.R.Repo.told c.args.repo.now).object c.args.work.now.paths.now c.args.work.now.drivers.now dealt.pool.items dealt.desks.items
    c.requires.work.drivers_are.of_paths c.in_ok-pool.ensures.pool.count c.in_ok-pool.ensures.desks in
    on_err _ c.from_residual-in_err-pooled.result
    (inr (subst (λ (k : ℕ). HasMade k (length c.args.work.now.drivers.now) (g.R.Repo.seen c.args.repo.now) (g.R.Repo.seen c.deal.new.repo) (g.T.Worktree.seen c.args.tree.now) (g.T.Worktree.seen c.deal.new.tree)
    (g.P.Spawner.seen c.args.spawner.now) (g.P.Spawner.seen c.deal.new.spawner)) all c.in_ok-pool.ensures.made))

pub give_blobs-requires-after_bounds : goal.give_blobs-requires-after_bounds
give_blobs-requires-after_bounds g c κs within =
    let see = sight g.R.Blob.Blob.told g.R.Blob.Blob.seen g.T.Leaf.Leaf.seen in
    let paths = c.args.work.now.paths.now in
    let dealt = c.in_ok-pool.field-0 in
    let left = c.in_ok-pooled.pooled in
    let object = (g.R.Repo.told c.args.repo.now).object in
    let cards = dealt.pool.items ++ seed_cards dealt.desks.items in
    let all = all_count g.P.Starter.Starter.seen see (g.P.Spawner.told c.args.spawner.now) object paths c.args.work.now.drivers.now dealt.pool.items dealt.desks.items
    c.requires.work.drivers_are.of_paths c.in_ok-pool.ensures.pool.count c.in_ok-pool.ensures.desks in
    let many = counts see object [] paths left.history.items cards c.in_ok-pooled.ensures.run.core (λ n. None) 0 paths left.blobs.items left.leaves.items
    (subst (λ (ss : List Start). AreEnds see ss left.history.items cards 0 ss left.blobs.items left.leaves.items) c.in_ok-starts.ensures c.in_ok-pooled.ensures.ends) in
    omega (arith, many.0, all, ap (λ (r : RepoSeen). r.out) c.in_ok-pool.ensures.made.repo_kept)

pub give_leaves-requires-after_bounds : goal.give_leaves-requires-after_bounds
give_leaves-requires-after_bounds g c κs within =
    let see = sight g.R.Blob.Blob.told g.R.Blob.Blob.seen g.T.Leaf.Leaf.seen in
    let paths = c.args.work.now.paths.now in
    let dealt = c.in_ok-pool.field-0 in
    let left = c.in_ok-pooled.pooled in
    let object = (g.R.Repo.told c.args.repo.now).object in
    let cards = dealt.pool.items ++ seed_cards dealt.desks.items in
    let all = all_count g.P.Starter.Starter.seen see (g.P.Spawner.told c.args.spawner.now) object paths c.args.work.now.drivers.now dealt.pool.items dealt.desks.items
    c.requires.work.drivers_are.of_paths c.in_ok-pool.ensures.pool.count c.in_ok-pool.ensures.desks in
    let many = counts see object [] paths left.history.items cards c.in_ok-pooled.ensures.run.core (λ n. None) 0 paths left.blobs.items left.leaves.items
    (subst (λ (ss : List Start). AreEnds see ss left.history.items cards 0 ss left.blobs.items left.leaves.items) c.in_ok-starts.ensures c.in_ok-pooled.ensures.ends) in
    omega (arith, many.1, all, ap (λ (t : TreeSeen). t.out) c.in_ok-pool.ensures.made.tree_kept)

pub give_starters-requires-clause-given : goal.give_starters-requires-clause-given
give_starters-requires-clause-given g c κs within =
    let see = sight g.R.Blob.Blob.told g.R.Blob.Blob.seen g.T.Leaf.Leaf.seen in
    let dealt = c.in_ok-pool.field-0 in
    let left = c.in_ok-pooled.pooled in
    let desks = desk_count g.P.Starter.Starter.seen see (g.P.Spawner.told c.args.spawner.now) (g.R.Repo.told c.args.repo.now).object c.args.work.now.paths.now 0 c.args.work.now.drivers.now dealt.desks.items c.in_ok-pool.ensures.desks in
    let back = starters_count g.P.Starter.Starter.seen see c.in_ok-starts.starts.items left.history.items left.leaves.items 0 dealt.desks.items left.starters.items c.in_ok-pooled.ensures.starters in
    omega (arith, back, desks.1, ap (λ (x : SpawnerSeen). x.out) c.in_ok-pool.ensures.made.spawner_kept)

pub give_starters-requires-clause-ended : goal.give_starters-requires-clause-ended
give_starters-requires-clause-ended g c κs within =
    let see = sight g.R.Blob.Blob.told g.R.Blob.Blob.seen g.T.Leaf.Leaf.seen in
    let starter = g.P.Starter.Starter.seen in
    let ahead = g.P.Spawner.told c.args.spawner.now in
    let object = (g.R.Repo.told c.args.repo.now).object in
    let paths = c.args.work.now.paths.now in
    let drivers = c.args.work.now.drivers.now in
    let desks = c.in_ok-pool.field-0.desks.items in
    let left = c.in_ok-pooled.pooled in
    (talks_back starter see ahead object paths left.history.items left.leaves.items (record {
      asked = c.a_talk_asks_for_what_was_read.ensures.asked;
      each = c.a_talk_asks_for_what_was_read.ensures.each;
      rises = c.a_talk_asks_for_what_was_read.ensures.rises;
      fit = c.works_fit_their_contents.ensures;
    }) 0 drivers desks left.starters.items c.in_ok-pool.ensures.desks
    (seeds_are starter see ahead object paths drivers 0 drivers desks
    (λ i x h. let same : ◌≡◌ {A = ℕ} (0 + i) i = omega arith in ap (slice_get drivers) same ∙ h) c.requires.work.drivers_are.of_paths c.requires.ordered c.requires.work.few c.in_ok-pool.ensures.desks)
    (subst (λ (ss : List Start). AreStartersBack starter see ss left.history.items left.leaves.items 0 desks left.starters.items) c.in_ok-starts.ensures c.in_ok-pooled.ensures.starters)).ended

pub returns-clause-ended : goal.returns-clause-ended
returns-clause-ended g c =
    let see = sight g.R.Blob.Blob.told g.R.Blob.Blob.seen g.T.Leaf.Leaf.seen in
    let starter = g.P.Starter.Starter.seen in
    let ahead = g.P.Spawner.told c.args.spawner.now in
    let object = (g.R.Repo.told c.args.repo.now).object in
    let paths = c.args.work.now.paths.now in
    let drivers = c.args.work.now.drivers.now in
    let dealt = c.in_ok-pool.field-0 in
    let desks = dealt.desks.items in
    let left = c.in_ok-pooled.pooled in
    let made = c.in_ok-pool.ensures.made in
    let repo = g.R.Repo.seen c.args.repo.now in
    let tree = g.T.Worktree.seen c.args.tree.now in
    let count = desk_count starter see ahead object paths 0 drivers desks c.in_ok-pool.ensures.desks in
    let all = all_count starter see ahead object paths drivers dealt.pool.items desks c.requires.work.drivers_are.of_paths c.in_ok-pool.ensures.pool.count c.in_ok-pool.ensures.desks in
    let back : AreStartersBack starter see (starts_of paths) left.history.items left.leaves.items 0 desks left.starters.items =
    subst (λ (ss : List Start). AreStartersBack starter see ss left.history.items left.leaves.items 0 desks left.starters.items) c.in_ok-starts.ensures c.in_ok-pooled.ensures.starters in
    let run : IsRun (starts_of paths) c.workers_for-workers.result (length drivers) left.history.items left.verdicts.items =
    subst (λ (n : ℕ). IsRun (starts_of paths) c.workers_for-workers.result n left.history.items left.verdicts.items) count.1
    (subst (λ (ss : List Start). IsRun ss c.workers_for-workers.result (length desks) left.history.items left.verdicts.items) c.in_ok-starts.ensures c.in_ok-pooled.ensures.run) in
    let talked = talks_back starter see ahead object paths left.history.items left.leaves.items (record {
      asked = c.a_talk_asks_for_what_was_read.ensures.asked;
      each = c.a_talk_asks_for_what_was_read.ensures.each;
      rises = c.a_talk_asks_for_what_was_read.ensures.rises;
      fit = c.works_fit_their_contents.ensures;
    }) 0 drivers desks left.starters.items c.in_ok-pool.ensures.desks
    (seeds_are starter see ahead object paths drivers 0 drivers desks
    (λ i x h. let same : ◌≡◌ {A = ℕ} (0 + i) i = omega arith in ap (slice_get drivers) same ∙ h) c.requires.work.drivers_are.of_paths c.requires.ordered c.requires.work.few c.in_ok-pool.ensures.desks) back in
    finished starter see ahead object paths drivers c.workers_for-workers.result dealt.pool.items desks left.history.items left.verdicts.items left.blobs.items left.leaves.items left.starters.items _ _ _ _ _ _
    c.a_verdict_is_what_is_told.ensures c.a_history_keeps_its_size.ensures c.requires.work.texts c.requires.work.drivers_are c.in_ok-pool.ensures.pool c.in_ok-pool.ensures.desks
    (record {
      run = run;
      ends = subst (λ (ss : List Start). AreEnds see ss left.history.items (dealt.pool.items ++ seed_cards desks) 0 ss left.blobs.items left.leaves.items) c.in_ok-starts.ensures c.in_ok-pooled.ensures.ends;
      back = back;
    }) talked
    (record {
      mid = g.R.Repo.seen c.deal.new.repo;
      mid_tree = g.T.Worktree.seen c.deal.new.tree;
      repo_made = made.repo_kept ∙ ap (λ (n : ℕ). record repo { out = repo.out + n }) all;
      tree_made = made.tree_kept ∙ ap (λ (n : ℕ). record tree { out = tree.out + n }) all;
      blobs_out = c.give_blobs.ensures.out;
      blobs_back = c.give_blobs.ensures.back;
      faults = c.give_leaves.ensures.faults;
      leaves_out = c.give_leaves.ensures.out;
      leaves_back = c.give_leaves.ensures.back;
      files = c.give_leaves.ensures.files;
      none = c.give_leaves.ensures.none;
    })
    (record {
      mid = g.P.Spawner.seen c.deal.new.spawner;
      made = made.spawner_kept;
      count = starters_count starter see (starts_of paths) left.history.items left.leaves.items 0 desks left.starters.items back ∙ count.1;
      out = c.give_starters.ensures.out;
      back = c.give_starters.ensures.back;
    })

pub returns-clause-run : goal.returns-clause-run
returns-clause-run g c =
    let see = sight g.R.Blob.Blob.told g.R.Blob.Blob.seen g.T.Leaf.Leaf.seen in
    let dealt = c.in_ok-pool.field-0 in
    let left = c.in_ok-pooled.pooled in
    let work = c.args.work.now in
    let pace = work.pace in
    let desks = desk_count g.P.Starter.Starter.seen see (g.P.Spawner.told c.args.spawner.now) (g.R.Repo.told c.args.repo.now).object work.paths.now 0 work.drivers.now dealt.desks.items c.in_ok-pool.ensures.desks in
    let many : c.workers_for-workers.result ≡ workers_at pace work.paths.now =
    c.workers_for-workers.ensures ∙ ap (workers_for pace.asked pace.workers pace.threshold) (c.len.ensures ∙ (dealt.pool.ok.0 ∙ c.in_ok-pool.ensures.pool.count)) in
    record {
      many = many;
      run = subst (λ (n : ℕ). IsRun (starts_of work.paths.now) n (length work.drivers.now) left.history.items left.verdicts.items) many
          (subst (λ (n : ℕ). IsRun (starts_of work.paths.now) c.workers_for-workers.result n left.history.items left.verdicts.items) desks.1
          (subst (λ (ss : List Start). IsRun ss c.workers_for-workers.result (length dealt.desks.items) left.history.items left.verdicts.items) c.in_ok-starts.ensures c.in_ok-pooled.ensures.run));
    }

pub returns-in_err-pool-clause-told : goal.returns-in_err-pool-clause-told
returns-in_err-pool-clause-told g c = c.in_err-pool.ensures.told

pub returns-in_err-pool-clause-starts : goal.returns-in_err-pool-clause-starts
returns-in_err-pool-clause-starts g c = c.in_err-pool.ensures.starts

pub returns-in_err-pool-clause-broken : goal.returns-in_err-pool-clause-broken
returns-in_err-pool-clause-broken g c = on_err _ c.from_residual-in_err-pool.result (inl c.in_err-pool.ensures.none)

pub returns-in_err-pooled-clause-told : goal.returns-in_err-pooled-clause-told
returns-in_err-pooled-clause-told g c = c.in_ok-pool.ensures.told

pub returns-in_err-pooled-clause-starts : goal.returns-in_err-pooled-clause-starts
returns-in_err-pooled-clause-starts g c = c.in_ok-pool.ensures.starts

pub pool_run-requires-clause-new : goal.pool_run-requires-clause-new
pool_run-requires-clause-new g c κs within = c.in_ok-pool.ensures.new

pub returns-clause-told : goal.returns-clause-told
returns-clause-told g c = c.give_blobs.ensures.told ∙ c.in_ok-pool.ensures.told

pub returns-clause-starts : goal.returns-clause-starts
returns-clause-starts g c = c.give_starters.ensures.told ∙ c.in_ok-pool.ensures.starts

pub returns-in_err-starts-clause-told : goal.returns-in_err-starts-clause-told
returns-in_err-starts-clause-told g c = refl

pub returns-in_err-starts-clause-starts : goal.returns-in_err-starts-clause-starts
returns-in_err-starts-clause-starts g c = refl
