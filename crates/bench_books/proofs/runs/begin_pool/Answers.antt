use Rattle.std.proofs.Common.{◌≡◌, length, ap, arith}
use Rattle.checkout_book.specs.declared.plan.BookPlan.{BookPlan}
use Rattle.checkout_book.specs.Sights.{sight}
use Rattle.bench_books.proofs.Working.{alone, pool_there, pool_all_new, pool_below, none_dealt}
use Rattle.bench_books.proofs.runs.begin_pool.Goals as goal

pub reserve-requires-clause-plan : goal.reserve-requires-clause-plan
reserve-requires-clause-plan g c =
    let see = sight g.B.Blob.told g.B.Blob.seen g.L.Leaf.seen in
    let none : length c.new-desks.result.items ≡ 0 = ap length c.new-desks.ensures.items in record {
      few_paths = c.requires.few;
      below = pool_below see _ _ _ _ c.requires.pool.1;
      some = omega arith;
      few_workers = omega arith;
      few_desks = omega (arith, none);
      pool_is = pool_there see _ _ _ c.requires.pool.1;
      new = pool_all_new see _ _ _ _ c.requires.pool.1 c.new-desks.ensures.items;
    }

pub reserve-requires-clause-desks : goal.reserve-requires-clause-desks
reserve-requires-clause-desks g c =
    none_dealt (sight g.B.Blob.told g.B.Blob.seen g.L.Leaf.seen) c.args.new.starts.items
    c.new-desks.result.items c.new-desks.ensures.items

pub returns : goal.returns
returns g c =
    let e = c.in_ok-begun.ensures in
    let none : length c.new-desks.result.items ≡ 0 = ap length c.new-desks.ensures.items in
    let d : BookPlan g.row.B.Denot g.row.L.Denot = record {
      pool = c.args.new.cards;
      desks = c.new-desks.result;
      starts = c.args.new.starts;
      workers = 1;
      drivers = length c.new-desks.result.items;
    } in
    (d, alone _ d _ _ _ _ _ e.passes e.count c.in-Some.ensures.items, omega (arith, none))
