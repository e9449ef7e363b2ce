use Rattle.std.proofs.Common.{◌≡◌, length, ap, arith}
use Rattle.checkout_book.specs.Sights.{sight}
use Rattle.bench_books.specs.Pairs.{pair_plan}
use Rattle.bench_books.proofs.Pairing.{pair_below, pair_pool, pair_new, pair_dealt, begun}
use Rattle.bench_books.proofs.pair.begin_pair.Goals as goal

pub reserve-requires-clause-plan : goal.reserve-requires-clause-plan
reserve-requires-clause-plan g c =
    let see = sight g.B.Blob.told g.B.Blob.seen g.L.Leaf.seen in
    let d = pair_plan c.in_ok-cards.cards in
    let two_paths : length c.in_ok-cards.cards.starts.items ≡ 2 = ap length c.in_ok-cards.ensures.starts in
    let one : length c.in_ok-cards.cards.desks.items ≡ 1 = c.in_ok-cards.ensures.count in record {
      few_paths = omega (arith, two_paths);
      below = pair_below see d _ _ c.in_ok-cards.ensures;
      some = omega arith;
      few_workers = omega arith;
      few_desks = omega (arith, one);
      pool_is = pair_pool see d _ _ c.in_ok-cards.ensures;
      new = pair_new see d _ _ c.in_ok-cards.ensures;
    }

pub reserve-requires-clause-desks : goal.reserve-requires-clause-desks
reserve-requires-clause-desks g c =
    pair_dealt (sight g.B.Blob.told g.B.Blob.seen g.L.Leaf.seen) (pair_plan c.in_ok-cards.cards) _ _
    c.in_ok-cards.ensures

pub returns : goal.returns
returns g c =
    let d = pair_plan c.in_ok-cards.cards in
    let is = c.in_ok-cards.ensures in
    let k = c.in_ok-begun.ensures in
    let last = c.in-Some-pop.last in
    let one : length c.in_ok-cards.cards.desks.items ≡ 1 = is.count in (
      d,
      begun (sight g.B.Blob.told g.B.Blob.seen g.L.Leaf.seen) c.in_ok-begun.begun.book d _ c.args.free
          c.args.filtered is c.in_ok-begun.begun.workers.items c.in_ok-begun.begun.desks.items k.count k.passes
          k.fresh k.cards (omega (arith, one)) _ c.in-Some.worker _ last.0 last.1 _ c.in-Some-pop-2.card
          c.in-Some.ensures.items c.in-Some-pop.ensures.items c.in-Some-pop-2.ensures.items,
    )
