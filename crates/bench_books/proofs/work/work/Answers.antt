use Rattle.bench_books.proofs.Working.{own_number, after_work}
use Rattle.bench_books.proofs.work.work.Goals as goal

pub loop-turn-init : goal.loop-turn-init
loop-turn-init g c d made h = h

pub close_one-requires : goal.close_one-requires
close_one-requires g c =
    let r = c.requires in
    (r.0, r.1, own_number _ r.0 _ r.1 _ (c.loop-turn.invariant r.0 r.1 r.2))

pub returns-then-not-close_one : goal.returns-then-not-close_one
returns-then-not-close_one g c d made has =
    after_work _ d _ made _ _ (c.loop-turn.invariant d made has) (c.if-not-close_one.ensures d made)

pub loop-turn-preserved : goal.loop-turn-preserved
loop-turn-preserved g c d made has =
    after_work _ d _ made _ _ (c.loop-turn.invariant d made has) (c.if-not-close_one.ensures d made)

pub returns : goal.returns
returns g c d made has = c.loop-turn.invariant d made has
