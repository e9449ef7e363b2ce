use Rattle.std.proofs.Common.{arith}
use Rattle.checkout_book.specs.Sights.{sight}
use Rattle.bench_books.proofs.Working.{pool_none, pool_more, pool_whole}
use Rattle.bench_books.proofs.cards.new_cards.Goals as goal

pub loop-path-init : goal.loop-path-init
loop-path-init g c =
    pool_none (sight g.R.Blob.Blob.told g.R.Blob.Blob.seen g.W.Leaf.Leaf.seen) _ _ c.in_ok-starts.ensures.items
    c.in_ok-cards.ensures.items

pub loop-path-preserved : goal.loop-path-preserved
loop-path-preserved g c =
    pool_more (sight g.R.Blob.Blob.told g.R.Blob.Blob.seen g.W.Leaf.Leaf.seen) _ _ _ _ _ c.in_ok-card.card
    c.loop-path.invariant c.in_ok-card.ensures.path c.in_ok-card.ensures.new c.in_ok-push-2.ensures.items
    c.in_ok-push.ensures.items

pub returns : goal.returns
returns g c = record {
  pool = pool_whole (sight g.R.Blob.Blob.told g.R.Blob.Blob.seen g.W.Leaf.Leaf.seen) _ _ _ _ c.loop-path.invariant
      (omega (arith, c.loop-path.auto.path-end, c.loop-path-test.false));
}
