use Rattle.checkout_book.specs.Ending.{GoesOn}
use Rattle.checkout_book.specs.Sights.{sight}
use Rattle.bench_books.proofs.runs.close_rest.Given as goal

abbrev pub invariant-loop-card : goal.invariant-loop-card
invariant-loop-card g l = GoesOn (sight g.B.Blob.told g.B.Blob.seen g.L.Leaf.seen) l.ended.shelf
