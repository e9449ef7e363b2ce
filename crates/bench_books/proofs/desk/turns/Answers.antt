use Rattle.bench_books.proofs.Working.{own_number, after_work}
use Rattle.bench_books.proofs.desk.turns.Goals as goal

pub work-idle-requires : goal.work-idle-requires
work-idle-requires g c =
    let r = c.requires.first in
    (r.0, r.1, own_number _ r.0 _ r.1 _ r.2)

pub give_back-desk-requires-clause-first : goal.give_back-desk-requires-clause-first
give_back-desk-requires-clause-first g c =
    let r = c.requires.first in
    (r.0, 0, r.3, r.4)

pub work-worker-requires : goal.work-worker-requires
work-worker-requires g c =
    let r = c.requires.first in
    (r.0, r.1, own_number _ r.0 _ r.1 _ (after_work _ r.0 _ r.1 _ _ r.2 (c.work-idle.ensures r.0 r.1)))

pub work-desk-requires : goal.work-desk-requires
work-desk-requires g c =
    let r = c.requires.first in
    (r.0, 0, own_number _ r.0 _ 0 _ (c.give_back-desk.ensures r.0 0 r.3))

pub returns : goal.returns
returns g c d made worker first = (
  after_work _ d _ made _ _ (after_work _ d _ made _ _ worker (c.work-idle.ensures d made))
      (c.work-worker.ensures d made),
  after_work _ d _ 0 _ _ (c.give_back-desk.ensures d 0 first) (c.work-desk.ensures d 0),
)
