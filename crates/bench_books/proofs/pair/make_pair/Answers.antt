use Rattle.std.proofs.Common.{◌++◌, [], length, refl, ap, ◌∙◌}
use Rattle.checkout_book.specs.Shelves.{joined}
use Rattle.bench_books.proofs.pair.make_pair.Goals as goal

pub returns : goal.returns
returns g c =
    let list = c.in_ok-pool.ensures.second in
    record {
      pool = c.in_ok-pool.ensures.first;
      desks = ap joined list.1 ∙ ap (λ l. l ++ []) list.2;
      count = ap length list.1;
      starts = c.in_ok-starts.ensures;
      workers = refl;
      drivers = ap length list.1;
      free_path = c.requires.free;
      filtered_path = c.requires.filtered;
      free_new = c.requires.free_new;
      filtered_new = c.requires.filtered_new;
    }
