use Rattle.checkout_book.specs.Sights.{sight}
use Rattle.bench_books.specs.Pools.{IsPool}
use Rattle.bench_books.proofs.cards.new_cards.Given as goal

abbrev pub invariant-loop-path : goal.invariant-loop-path
invariant-loop-path g l =
    IsPool (sight g.R.Blob.Blob.told g.R.Blob.Blob.seen g.W.Leaf.Leaf.seen) l.path l.starts.items l.cards.items
