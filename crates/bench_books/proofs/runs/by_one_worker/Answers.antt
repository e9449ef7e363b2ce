use Rattle.bench_books.proofs.Working.{own_number, after_work}
use Rattle.bench_books.proofs.runs.by_one_worker.Goals as goal

pub begin_pool-requires-clause-pool : goal.begin_pool-requires-clause-pool
begin_pool-requires-clause-pool g c = (_, c.in_ok-new.ensures.pool)

pub work-idle-requires : goal.work-idle-requires
work-idle-requires g c =
    let r = c.in_ok-begun.ensures in
    (r.0, _, own_number _ r.0 0 _ _ r.1)

pub finish_one-requires : goal.finish_one-requires
finish_one-requires g c =
    let r = c.in_ok-begun.ensures in
    (r.0, after_work _ r.0 0 _ _ _ r.1 (c.work-idle.ensures r.0 _), r.2)
