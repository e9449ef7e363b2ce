use Rattle.std.proofs.Common.{◌≡◌, subst}
use Rattle.edge_kit.specs.Seen.{RepoSeen}
use Rattle.edge_kit.specs.Told.{RepoTold}
use Rattle.std.proofs.lemmas.Result.{err_from_is_err_and}
use Rattle.checkout_sources.specs.Reading.{ReadsPlan}
use Rattle.checkout_sources.proofs.Stopped.{as_it_was, stops_reading}
use Rattle.checkout_sources.proofs.planned.read_plan.Goals as goal

pub returns-clause-reads : goal.returns-clause-reads
returns-clause-reads g c =
    let old = g.R.Repo.seen c.args.repo.now in
    let mid = g.R.Repo.seen c.read_sources.new.repo in
    let new = g.R.Repo.seen c.plan_from.new.repo in
    let same : mid ≡ old = as_it_was old mid c.in_ok-sources.ensures.kept c.in_ok-sources.ensures.stops in
    subst (λ (r : RepoSeen). ReadsPlan (g.R.Repo.told c.args.repo.now) r new c.plan_from.result) same
    (subst (λ (t : RepoTold). ReadsPlan t mid new c.plan_from.result) c.in_ok-sources.ensures.told c.plan_from.ensures.reads)

pub returns-in_err-sources-clause-reads : goal.returns-in_err-sources-clause-reads
returns-in_err-sources-clause-reads g c =
    let p = err_from_is_err_and c.from_residual.result c.from_residual.ensures.1 in
    rw (p.1, p.2) (stops_reading (g.R.Repo.told c.args.repo.now) (g.R.Repo.seen c.args.repo.now) (g.R.Repo.seen c.read_sources.new.repo) c.in_err-sources.field-0.0 c.in_err-sources.ensures.kept c.in_err-sources.ensures.stops)
