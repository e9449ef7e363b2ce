use Rattle.std.proofs.Common.{◌≡◌, ◌+◌, ◌++◌, ◌∷◌, [], ℕ, length, length-append, refl, sym, ap, ◌∙◌, subst, arith, append_assoc, append-nil}
use Rattle.edge_kit.specs.Starters.{StarterSeen}
use Rattle.checkout_book.specs.Sights.{sight}
use Rattle.writer_pool.specs.Pools.{seed_cards}
use Rattle.checkout_paths.specs.Made.{HasCards, HasStarters}
use Rattle.checkout_paths.proofs.Back.{none_left}
use Rattle.checkout_paths.proofs.Made.{starter_returns}
use Rattle.checkout_paths.proofs.SeedCards.{new_seed, idle_seed, few_before, one_more}
use Rattle.checkout_paths.proofs.dealt.give_seeds.Goals as goal

pub loop-seed-init : goal.loop-seed-init
loop-seed-init g c =
    let whole = c.into_iter-seed-iterator.ensures.into_iter_gives.0 in
    record {
      whole = whole;
      told = refl;
      starts = refl;
      blobs = omega arith;
      leaves = omega arith;
      starters = omega arith;
      cards_back = λ n repo0 tree0 h. subst (λ l. HasCards (n + length (seed_cards l)) repo0 (g.R.Repo.seen c.args.repo.now) tree0 (g.T.Worktree.seen c.args.tree.now)) (sym whole) h;
      starters_back = λ n spawner0 h. subst (λ l. HasStarters (n + length l) spawner0 (g.P.Spawner.seen c.args.spawner.now)) (sym whole) h;
      can = tt;
      ends = tt;
    }

pub give_cards-requires-clause-new : goal.give_cards-requires-clause-new
give_cards-requires-clause-new g c κs within =
    let see = sight g.R.Blob.Blob.told g.R.Blob.Blob.seen g.T.Leaf.Leaf.seen in
    let y = c.loop-seed.yielded in
    new_seed see y c.next.new.self.rest.items c.args.desks.items c.in-Some.seed (ap (λ l. y ++ l) (sym c.in-Some.ensures.steps.0) ∙ c.loop-seed.invariant.whole) c.requires.unused.new

pub give_cards-requires-clause-blobs : goal.give_cards-requires-clause-blobs
give_cards-requires-clause-blobs g c κs within =
    let y = c.loop-seed.yielded in
    few_before y c.next.new.self.rest.items c.args.desks.items c.in-Some.seed (g.R.Repo.seen c.loop-seed.repo).out (g.R.Repo.seen c.args.repo.now).out
    (ap (λ l. y ++ l) (sym c.in-Some.ensures.steps.0) ∙ c.loop-seed.invariant.whole) c.loop-seed.invariant.blobs c.requires.out.blobs

pub give_cards-requires-clause-leaves : goal.give_cards-requires-clause-leaves
give_cards-requires-clause-leaves g c κs within =
    let y = c.loop-seed.yielded in
    few_before y c.next.new.self.rest.items c.args.desks.items c.in-Some.seed (g.T.Worktree.seen c.loop-seed.tree).out (g.T.Worktree.seen c.args.tree.now).out
    (ap (λ l. y ++ l) (sym c.in-Some.ensures.steps.0) ∙ c.loop-seed.invariant.whole) c.loop-seed.invariant.leaves c.requires.out.leaves

pub take_back-requires-clause-given : goal.take_back-requires-clause-given
take_back-requires-clause-given g c =
    let i = c.loop-seed.invariant in
    omega (
      arith,
      i.starters,
      c.requires.out.starters_out,
      ap length i.whole,
      length-append c.loop-seed.yielded c.loop-seed.seed-iterator.rest.items,
      ap length c.in-Some.ensures.steps.0,
    )

pub take_back-requires-clause-ended : goal.take_back-requires-clause-ended
take_back-requires-clause-ended g c =
    let y = c.loop-seed.yielded in
    ap (λ (s : StarterSeen). s.out) (idle_seed g.P.Starter.Starter.seen y c.next.new.self.rest.items c.args.desks.items c.in-Some.seed (ap (λ l. y ++ l) (sym c.in-Some.ensures.steps.0) ∙ c.loop-seed.invariant.whole) c.requires.unused.idle)

pub loop-seed-preserved : goal.loop-seed-preserved
loop-seed-preserved g c =
    let i = c.loop-seed.invariant in
    let y = c.loop-seed.yielded in
    let x = c.in-Some.seed in
    let rest = c.next.new.self.rest.items in
    let here : y ++ x ∷ rest ≡ c.args.desks.items = ap (λ l. y ++ l) (sym c.in-Some.ensures.steps.0) ∙ i.whole in
    let cards : length (seed_cards (y ++ x ∷ [])) ≡ length (seed_cards y) + length x.cards.items = one_more y x in
    let given = c.give_cards.ensures in
    record {
      whole = append_assoc y (x ∷ []) rest ∙ here;
      told = given.told ∙ i.told;
      starts = c.take_back.ensures.told ∙ i.starts;
      blobs = omega (arith, given.blobs_out, i.blobs, cards);
      leaves = omega (arith, given.leaves_out, i.leaves, cards);
      starters = omega (arith, c.take_back.ensures.out, i.starters, length-append y (x ∷ []));
      cards_back = λ n repo0 tree0 h. given.back (n + length (seed_cards rest)) repo0 tree0
          (subst (λ (k : ℕ). HasCards k repo0 (g.R.Repo.seen c.loop-seed.repo) tree0 (g.T.Worktree.seen c.loop-seed.tree))
          (omega (arith, ap (λ l. length (seed_cards l)) c.in-Some.ensures.steps.0, length-append x.cards.items (seed_cards rest))) (i.cards_back n repo0 tree0 h));
      starters_back = λ n spawner0 h. starter_returns (n + length rest) (g.P.Starter.Starter.seen x.starter) spawner0 (g.P.Spawner.seen c.loop-seed.spawner) (g.P.Spawner.seen c.take_back.new.self)
          (idle_seed g.P.Starter.Starter.seen y rest c.args.desks.items x here c.requires.unused.idle)
          (subst (λ (k : ℕ). HasStarters k spawner0 (g.P.Spawner.seen c.loop-seed.spawner)) (omega (arith, ap length c.in-Some.ensures.steps.0)) (i.starters_back n spawner0 h))
          c.take_back.ensures.out c.take_back.ensures.back;
      can = tt;
      ends = tt;
    }

pub returns : goal.returns
returns g c =
    let i = c.loop-seed.invariant in
    let y = c.loop-seed.yielded in
    let left = c.loop-seed.seed-iterator.rest in
    let none : left.items ≡ [] = none_left left.items (sym left.ok.0 ∙ c.in-None.ensures.steps.0) in
    let whole : y ≡ c.args.desks.items = sym (append-nil y) ∙ (ap (λ l. y ++ l) (sym none) ∙ i.whole) in
    record {
      told = i.told;
      starts = i.starts;
      back = record {
        blobs_out = omega (arith, i.blobs, ap (λ l. length (seed_cards l)) whole);
        leaves_out = omega (arith, i.leaves, ap (λ l. length (seed_cards l)) whole);
        cards_back = λ n repo0 tree0 h. subst (λ (k : ℕ). HasCards k repo0 (g.R.Repo.seen c.loop-seed.repo) tree0 (g.T.Worktree.seen c.loop-seed.tree))
            (omega (arith, ap (λ l. length (seed_cards l)) none)) (i.cards_back n repo0 tree0 h);
        starters_back = λ n spawner0 h. subst (λ (k : ℕ). HasStarters k spawner0 (g.P.Spawner.seen c.loop-seed.spawner)) (omega (arith, ap length none)) (i.starters_back n spawner0 h);
      };
    }
