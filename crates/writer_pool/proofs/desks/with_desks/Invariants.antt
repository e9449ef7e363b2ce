use Rattle.std.proofs.Common.{◌≡◌, ◌+◌, ◌++◌, map, length}
use Rattle.checkout_book.specs.Sights.{sight}
use Rattle.writer_pool.specs.Dealing.{AreDecks, desk_jobs}
use Rattle.writer_pool.proofs.desks.with_desks.Given as goal

abbrev pub invariant-loop-pass : goal.invariant-loop-pass
invariant-loop-pass g l = record {
  jobs : l.jobs.items ++ desk_jobs g.S.Starter.seen (sight g.B.Blob.told g.B.Blob.seen g.L.Leaf.seen) l.workers
      l.driver l.heads.rest.items l.pass-iterator.rest.items
      ≡ l.fn.jobs.items ++ desk_jobs g.S.Starter.seen (sight g.B.Blob.told g.B.Blob.seen g.L.Leaf.seen) l.workers 0
      l.fn.heads.items l.fn.dealt.items;
  heads : length l.heads.rest.items ≡ length l.pass-iterator.rest.items;
  count : l.driver + length l.pass-iterator.rest.items ≡ length l.fn.dealt.items;
  decks : AreDecks (sight g.B.Blob.told g.B.Blob.seen g.L.Leaf.seen) (map (λ x. x.1) l.pass-iterator.rest.items);
  can : (goal.iterator-loop-pass g).can_next l.pass-iterator;
  ends : (goal.iterator-loop-pass g).is_finite l.pass-iterator;
}
