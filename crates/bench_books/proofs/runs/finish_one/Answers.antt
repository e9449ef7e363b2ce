use Rattle.std.proofs.Common.{◌≡◌, length, ap, arith}
use Rattle.bench_books.proofs.Working.{alone_idle}
use Rattle.bench_books.proofs.runs.finish_one.Goals as goal

pub finish-requires : goal.finish-requires
finish-requires g c =
    let r = c.requires in
    let count : length c.in_ok-done.done.items ≡ 1 = ap length c.in_ok-done.ensures in (
      r.0,
      alone_idle c.args.book r.0 _ c.args.pass c.in_ok-done.done.items r.1 c.in_ok-done.ensures r.2,
      omega (arith, count),
      omega (arith, count, r.2),
    )
