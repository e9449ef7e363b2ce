use Rattle.std.proofs.Common.{◌≡◌, length, refl, ap, arith}
use Rattle.checkout_book.specs.Sights.{sight}
use Rattle.bench_books.proofs.Pairing.{both_idle, goes_on}
use Rattle.bench_books.proofs.runs.finish_both.Goals as goal

pub finish-ended-requires : goal.finish-ended-requires
finish-ended-requires g c =
    let r = c.requires in
    let count : length c.in_ok-done.done.items ≡ 2 = ap length c.in_ok-done.ensures in (
      r.0,
      both_idle c.args.book r.0 2 c.args.worker c.args.desk c.in_ok-done.done.items r.1 r.2 c.in_ok-done.ensures refl,
      omega (arith, count),
      omega (arith, count, r.3),
    )

pub returns : goal.returns
returns g c =
    let r = c.requires in
    goes_on (sight g.B.Blob.told g.B.Blob.seen g.L.Leaf.seen) r.0 c.in_ok-done.done.items c.finish-ended.result.shelf
    (c.finish-ended.ensures r.0 (both_idle c.args.book r.0 2 c.args.worker c.args.desk c.in_ok-done.done.items r.1 r.2
    c.in_ok-done.ensures refl)) r.3
