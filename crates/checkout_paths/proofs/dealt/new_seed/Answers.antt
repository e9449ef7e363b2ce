use Rattle.std.proofs.Common.{ℕ, length, refl, ap, ◌∙◌, subst, arith}
use Rattle.edge_kit.specs.Seen.{RepoSeen, TreeSeen}
use Rattle.checkout_paths.specs.Made.{HasCards}
use Rattle.checkout_paths.proofs.Made.{on_err, none_back, none_more}
use Rattle.checkout_paths.proofs.dealt.new_seed.Goals as goal

pub returns-in-Err-clause-none : goal.returns-in-Err-clause-none
returns-in-Err-clause-none g c =
    let repo = g.R.Repo.seen c.args.repo.now in
    let tree = g.T.Worktree.seen c.args.tree.now in
    let n = length c.in_ok-cards.cards.items in (
      c.in-Err.ensures.kept,
      c.give_cards.ensures.back 0 repo tree
          (subst (λ (k : ℕ). HasCards k repo (g.R.Repo.seen c.cards_of.new.repo) tree (g.T.Worktree.seen c.cards_of.new.tree)) (none_more n)
          (none_back n repo (g.R.Repo.seen c.cards_of.new.repo) tree (g.T.Worktree.seen c.cards_of.new.tree) c.in_ok-cards.ensures.repo c.in_ok-cards.ensures.tree)),
    )

pub returns-in_err-cards-clause-told : goal.returns-in_err-cards-clause-told
returns-in_err-cards-clause-told g c = c.in_err-cards.ensures.told

pub returns-in_err-cards-clause-starts : goal.returns-in_err-cards-clause-starts
returns-in_err-cards-clause-starts g c = refl

pub returns-in_err-cards-clause-none : goal.returns-in_err-cards-clause-none
returns-in_err-cards-clause-none g c = on_err _ c.from_residual.result (refl, c.in_err-cards.ensures.none)

pub give_cards-requires-clause-new : goal.give_cards-requires-clause-new
give_cards-requires-clause-new g c κs within = c.in_ok-cards.ensures.new

pub give_cards-requires-clause-blobs : goal.give_cards-requires-clause-blobs
give_cards-requires-clause-blobs g c κs within = omega (arith, ap (λ (r : RepoSeen). r.out) c.in_ok-cards.ensures.repo)

pub give_cards-requires-clause-leaves : goal.give_cards-requires-clause-leaves
give_cards-requires-clause-leaves g c κs within = omega (arith, ap (λ (t : TreeSeen). t.out) c.in_ok-cards.ensures.tree)

pub returns-in-Err-clause-told : goal.returns-in-Err-clause-told
returns-in-Err-clause-told g c = c.give_cards.ensures.told ∙ c.in_ok-cards.ensures.told

pub returns-in-Err-clause-starts : goal.returns-in-Err-clause-starts
returns-in-Err-clause-starts g c = c.in-Err.ensures.told

pub returns-clause-told : goal.returns-clause-told
returns-clause-told g c = c.in_ok-cards.ensures.told
