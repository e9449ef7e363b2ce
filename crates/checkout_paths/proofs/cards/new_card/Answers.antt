use Rattle.std.proofs.Common.{refl, sym, ◌∙◌, subst}
use Rattle.edge_kit.specs.Seen.{RepoSeen, TreeSeen}
use Rattle.checkout_paths.specs.Made.{HasCards}
use Rattle.checkout_paths.proofs.Made.{on_err, nothing_made, blob_alone}
use Rattle.checkout_paths.proofs.cards.new_card.Goals as goal

pub returns-in_err-text-clause-none : goal.returns-in_err-text-clause-none
returns-in_err-text-clause-none g c = on_err _ c.from_residual.result (nothing_made (g.R.Repo.seen c.args.repo.now) (g.T.Worktree.seen c.args.tree.now))

pub returns-in_err-blob-clause-none : goal.returns-in_err-blob-clause-none
returns-in_err-blob-clause-none g c =
    let repo = g.R.Repo.seen c.args.repo.now in
    let tree = g.T.Worktree.seen c.args.tree.now in
    on_err _ c.from_residual-in_err-blob.result (subst (λ (r : RepoSeen). HasCards 0 repo r tree tree) (sym c.in_err-blob.ensures.kept) (nothing_made repo tree))

pub returns-in-Err-clause-none : goal.returns-in-Err-clause-none
returns-in-Err-clause-none g c =
    let repo = g.R.Repo.seen c.args.repo.now in
    let tree = g.T.Worktree.seen c.args.tree.now in
    subst (λ (t : TreeSeen). HasCards 0 repo (g.R.Repo.seen c.take_back.new.self) tree t) (sym c.in-Err.ensures.kept)
    (blob_alone c.args.path.now.object (g.R.Blob.Blob.seen c.in_ok-blob.blob) repo (g.R.Repo.seen c.blob.new.self) (g.R.Repo.seen c.take_back.new.self) tree c.in_ok-blob.ensures.blob c.in_ok-blob.ensures.out
    (record { out = c.take_back.ensures.out; back = c.take_back.ensures.back }))

pub returns-in_err-text-clause-told : goal.returns-in_err-text-clause-told
returns-in_err-text-clause-told g c = refl

pub returns-in_err-blob-clause-told : goal.returns-in_err-blob-clause-told
returns-in_err-blob-clause-told g c = c.in_err-blob.ensures.told

pub returns-in-Err-clause-told : goal.returns-in-Err-clause-told
returns-in-Err-clause-told g c = c.take_back.ensures.told ∙ c.in_ok-blob.ensures.told

pub returns-clause-told : goal.returns-clause-told
returns-clause-told g c = c.in_ok-blob.ensures.told

pub returns-clause-repo : goal.returns-clause-repo
returns-clause-repo g c = c.in_ok-blob.ensures.out

pub returns-clause-number : goal.returns-clause-number
returns-clause-number g c = refl
