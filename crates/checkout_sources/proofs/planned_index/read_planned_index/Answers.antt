use Rattle.std.proofs.Common.{◌≡◌, subst}
use Rattle.edge_kit.specs.Seen.{RepoSeen}
use Rattle.edge_kit.specs.Told.{RepoTold}
use Rattle.std.proofs.lemmas.Result.{err_from_is_err_and}
use Rattle.checkout_sources.specs.PlannedIndex.{ReadsPlannedIndex}
use Rattle.checkout_sources.proofs.Stopped.{as_it_was, stops_reading}
use Rattle.checkout_sources.proofs.planned_index.read_planned_index.Goals as goal

pub returns-clause-reads : goal.returns-clause-reads
returns-clause-reads g c =
    let old = g.R.Repo.seen c.args.repo.now in
    let mid = g.R.Repo.seen c.read_sources.new.repo in
    let new = g.R.Repo.seen c.planned_from.new.repo in
    let same : mid ≡ old = as_it_was old mid c.in_ok-sources.ensures.kept c.in_ok-sources.ensures.stops in
    subst (λ (r : RepoSeen). ReadsPlannedIndex (g.R.Repo.told c.args.repo.now) r new c.planned_from.result) same
    (subst (λ (t : RepoTold). ReadsPlannedIndex t mid new c.planned_from.result) c.in_ok-sources.ensures.told c.planned_from.ensures.reads)

pub returns-in_err-sources-clause-reads : goal.returns-in_err-sources-clause-reads
returns-in_err-sources-clause-reads g c =
    let p = err_from_is_err_and c.from_residual.result c.from_residual.ensures.1 in
    rw (p.1, p.2) (stops_reading (g.R.Repo.told c.args.repo.now) (g.R.Repo.seen c.args.repo.now) (g.R.Repo.seen c.read_sources.new.repo) c.in_err-sources.field-0.0 c.in_err-sources.ensures.kept c.in_err-sources.ensures.stops)
