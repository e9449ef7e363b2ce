use Rattle.std.proofs.Common.{◌≡◌, ◌+◌, ◌∷◌, [], ℕ, length, length-append, take, refl, sym, ap, ◌∙◌, subst, arith}
use Rattle.edge_kit.specs.Seen.{RepoSeen, TreeSeen}
use Rattle.edge_kit.specs.Told.{RepoTold}
use Rattle.checkout_book.specs.Sights.{sight, seen}
use Rattle.checkout_paths.specs.Cards.{IsCardFor}
use Rattle.checkout_paths.specs.Made.{HasCards}
use Rattle.checkout_paths.proofs.Made.{on_err, nothing_made, other_way, more_made}
use Rattle.checkout_paths.proofs.PoolCards.{cards_new, texts_take, room_left, step_pool, step_other}
use Rattle.checkout_paths.proofs.cards.cards_of.Goals as goal
use Rattle.checkout_paths.proofs.cards.cards_of.Goals.{then-is_of+in-Ok, else-is_of}

pub returns-in_err-cards-clause-told : goal.returns-in_err-cards-clause-told
returns-in_err-cards-clause-told g c = refl

pub returns-in_err-cards-clause-none : goal.returns-in_err-cards-clause-none
returns-in_err-cards-clause-none g c = on_err _ c.from_residual.result (nothing_made (g.R.Repo.seen c.args.repo.now) (g.T.Worktree.seen c.args.tree.now))

pub push_reserved-requires : goal.push_reserved-requires
push_reserved-requires g c =
    omega (
      arith,
      room_left c.args.owner c.args.paths.now c.loop-place.place c.index-paths-place.result c.loop-place-test.true c.index-paths-place.is (sym c.is_of.ensures ∙ c.if-is_of.true),
      c.loop-place.invariant.cards.count,
      c.loop-place.invariant.room,
      c.loop-place.cards.ok.0,
    )

pub give_cards-requires-clause-new : goal.give_cards-requires-clause-new
give_cards-requires-clause-new g c κs within =
    cards_new c.args.owner (sight g.R.Blob.Blob.told g.R.Blob.Blob.seen g.T.Leaf.Leaf.seen) (g.R.Repo.told c.args.repo.now).object (take c.loop-place.place c.args.paths.now) c.loop-place.cards.items
    (texts_take c.args.paths.now c.loop-place.place c.requires.texts) c.loop-place.invariant.cards

pub give_cards-requires-clause-blobs : goal.give_cards-requires-clause-blobs
give_cards-requires-clause-blobs g c κs within = omega (arith, ap (λ (r : RepoSeen). r.out) c.in-Err.ensures.none.repo_kept, ap (λ (r : RepoSeen). r.out) c.loop-place.invariant.repo)

pub give_cards-requires-clause-leaves : goal.give_cards-requires-clause-leaves
give_cards-requires-clause-leaves g c κs within = omega (arith, ap (λ (t : TreeSeen). t.out) c.in-Err.ensures.none.tree_kept, ap (λ (t : TreeSeen). t.out) c.loop-place.invariant.tree)

pub returns-in-Err-clause-told : goal.returns-in-Err-clause-told
returns-in-Err-clause-told g c = c.give_cards.ensures.told ∙ (c.in-Err.ensures.told ∙ c.loop-place.invariant.told)

pub returns-in-Err-clause-none : goal.returns-in-Err-clause-none
returns-in-Err-clause-none g c =
    let repo = g.R.Repo.seen c.args.repo.now in
    let tree = g.T.Worktree.seen c.args.tree.now in
    let n = length c.loop-place.cards.items in
    let i = c.loop-place.invariant in
    c.give_cards.ensures.back 0 repo tree
    (subst (λ (k : ℕ). HasCards k repo (g.R.Repo.seen c.new_card.new.repo) tree (g.T.Worktree.seen c.new_card.new.tree)) (other_way n)
    (more_made n 0 repo (g.R.Repo.seen c.loop-place.repo) (g.R.Repo.seen c.new_card.new.repo) tree (g.T.Worktree.seen c.loop-place.tree) (g.T.Worktree.seen c.new_card.new.tree)
    i.repo i.tree c.in-Err.ensures.none))

pub loop-place-preserved : goal.loop-place-preserved
loop-place-preserved g c =
    let see = sight g.R.Blob.Blob.told g.R.Blob.Blob.seen g.T.Leaf.Leaf.seen in
    let object = (g.R.Repo.told c.args.repo.now).object in
    let paths = c.args.paths.now in
    let n = c.loop-place.place in
    let p = c.index-paths-place.result in
    let i = c.loop-place.invariant in
    let repo = g.R.Repo.seen c.args.repo.now in
    let tree = g.T.Worktree.seen c.args.tree.now in
    elim c.if-is_of.branch [
      | then-is_of+in-Ok w ↦ rw (w.repo-is, w.tree-is, w.cards-is) (
          let card = w.in-Ok.card in
          let made = w.in-Ok.ensures in
          let grew = w.push_reserved.ensures.items in
          let one : IsCardFor object n p (seen see card) = subst (λ (told : RepoTold). IsCardFor told.object n p (seen see card)) i.told made.card in
          let blobs : ◌≡◌ {A = ℕ} (repo.out + length c.loop-place.cards.items + 1) (repo.out + length w.push_reserved.new.self.items) = omega (arith, ap length grew, length-append c.loop-place.cards.items (card ∷ [])) in
          let leaves : ◌≡◌ {A = ℕ} (tree.out + length c.loop-place.cards.items + 1) (tree.out + length w.push_reserved.new.self.items) = omega (arith, ap length grew, length-append c.loop-place.cards.items (card ∷ [])) in
          record {
            told = made.told ∙ i.told;
            repo = made.repo ∙ ap (λ (r : RepoSeen). record r { out = r.out + 1 }) i.repo ∙ ap (λ (k : ℕ). record repo { out = k }) blobs;
            tree = made.tree ∙ ap (λ (t : TreeSeen). record t { out = t.out + 1 }) i.tree ∙ ap (λ (k : ℕ). record tree { out = k }) leaves;
            room = omega (arith, w.push_reserved.ensures.capacity, i.room);
            cards = step_pool c.args.owner see object paths n p c.loop-place.cards.items _ card c.loop-place-test.true c.index-paths-place.is i.cards (sym c.is_of.ensures ∙ w.if-is_of.true) made.number one grew;
          })
      | else-is_of w ↦ rw (w.repo-is, w.tree-is, w.cards-is) (record {
        told = i.told;
        repo = i.repo;
        tree = i.tree;
        room = i.room;
        cards = step_other c.args.owner see object paths n p c.loop-place.cards.items c.loop-place-test.true c.index-paths-place.is i.cards (sym c.is_of.ensures ∙ w.if-is_of.false);
      })
    ]

pub returns-clause-told : goal.returns-clause-told
returns-clause-told g c = c.loop-place.invariant.told

pub returns-clause-repo : goal.returns-clause-repo
returns-clause-repo g c = c.loop-place.invariant.repo

pub returns-clause-tree : goal.returns-clause-tree
returns-clause-tree g c = c.loop-place.invariant.tree

pub returns-clause-new : goal.returns-clause-new
returns-clause-new g c =
    cards_new c.args.owner (sight g.R.Blob.Blob.told g.R.Blob.Blob.seen g.T.Leaf.Leaf.seen) (g.R.Repo.told c.args.repo.now).object (take c.loop-place.place c.args.paths.now) c.loop-place.cards.items
    (texts_take c.args.paths.now c.loop-place.place c.requires.texts) c.loop-place.invariant.cards
