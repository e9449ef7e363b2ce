use Rattle.std.proofs.Common.{◌≡◌, ◌+◌, ◌++◌, ◌∷◌, [], ℕ, length, length-append, refl, sym, ap, ◌∙◌, subst, arith, append_assoc, append-nil}
use Rattle.checkout_book.specs.Sights.{sight}
use Rattle.checkout_paths.specs.Made.{HasCards}
use Rattle.checkout_paths.proofs.Back.{none_left}
use Rattle.checkout_paths.proofs.Made.{card_returns}
use Rattle.checkout_paths.proofs.PoolCards.{new_here}
use Rattle.checkout_paths.proofs.cards.give_cards.Goals as goal

pub loop-card-init : goal.loop-card-init
loop-card-init g c =
    let whole = c.into_iter-card-iterator.ensures.into_iter_gives.0 in
    record {
      whole = whole;
      told = refl;
      blobs = omega arith;
      leaves = omega arith;
      back = λ n repo0 tree0 h. subst (λ l. HasCards (n + length l) repo0 (g.R.Repo.seen c.args.repo.now) tree0 (g.T.Worktree.seen c.args.tree.now)) (sym whole) h;
      can = tt;
      ends = tt;
    }

pub take_back-requires : goal.take_back-requires
take_back-requires g c =
    let i = c.loop-card.invariant in
    omega (
      arith,
      i.blobs,
      c.requires.blobs,
      ap length i.whole,
      length-append c.loop-card.yielded c.loop-card.card-iterator.rest.items,
      ap length c.in-Some.ensures.steps.0,
    )

pub take_back-requires-in-loop-card : goal.take_back-requires-in-loop-card
take_back-requires-in-loop-card g c =
    let i = c.loop-card.invariant in
    omega (
      arith,
      i.leaves,
      c.requires.leaves,
      ap length i.whole,
      length-append c.loop-card.yielded c.loop-card.card-iterator.rest.items,
      ap length c.in-Some.ensures.steps.0,
    )

pub loop-card-preserved : goal.loop-card-preserved
loop-card-preserved g c =
    let i = c.loop-card.invariant in
    let y = c.loop-card.yielded in
    let x = c.in-Some.card in
    let rest = c.next.new.self.rest.items in
    let see = sight g.R.Blob.Blob.told g.R.Blob.Blob.seen g.T.Leaf.Leaf.seen in
    let here : y ++ x ∷ rest ≡ c.args.cards.items = ap (λ l. y ++ l) (sym c.in-Some.ensures.steps.0) ∙ i.whole in
    let new = new_here see y rest c.args.cards.items x here c.requires.new in
    record {
      whole = append_assoc y (x ∷ []) rest ∙ here;
      told = c.take_back.ensures.told ∙ i.told;
      blobs = omega (arith, c.take_back.ensures.out, i.blobs, length-append y (x ∷ []));
      leaves = omega (arith, c.take_back-in-loop-card.ensures.out, i.leaves, length-append y (x ∷ []));
      back = λ n repo0 tree0 h. card_returns (n + length rest) x.object x.text (g.R.Blob.Blob.seen x.blob) (g.T.Leaf.Leaf.seen x.leaf)
          repo0 (g.R.Repo.seen c.loop-card.repo) (g.R.Repo.seen c.take_back.new.self) tree0 (g.T.Worktree.seen c.loop-card.tree) (g.T.Worktree.seen c.take_back-in-loop-card.new.self)
          new.new_blob new.new_leaf
          (subst (λ (k : ℕ). HasCards k repo0 (g.R.Repo.seen c.loop-card.repo) tree0 (g.T.Worktree.seen c.loop-card.tree)) (omega (arith, ap length c.in-Some.ensures.steps.0)) (i.back n repo0 tree0 h))
          (record { out = c.take_back.ensures.out; back = c.take_back.ensures.back })
          (record { faults = c.take_back-in-loop-card.ensures.faults; out = c.take_back-in-loop-card.ensures.out; back = c.take_back-in-loop-card.ensures.back; files = c.take_back-in-loop-card.ensures.files });
      can = tt;
      ends = tt;
    }

pub returns : goal.returns
returns g c =
    let i = c.loop-card.invariant in
    let y = c.loop-card.yielded in
    let left = c.loop-card.card-iterator.rest in
    let none : left.items ≡ [] = none_left left.items (sym left.ok.0 ∙ c.in-None.ensures.steps.0) in
    let whole : y ≡ c.args.cards.items = sym (append-nil y) ∙ (ap (λ l. y ++ l) (sym none) ∙ i.whole) in
    record {
      told = i.told;
      blobs_out = omega (arith, i.blobs, ap length whole);
      leaves_out = omega (arith, i.leaves, ap length whole);
      back = λ n repo0 tree0 h. subst (λ (k : ℕ). HasCards k repo0 (g.R.Repo.seen c.loop-card.repo) tree0 (g.T.Worktree.seen c.loop-card.tree)) (omega (arith, ap length none)) (i.back n repo0 tree0 h);
    }
