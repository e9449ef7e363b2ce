use Rattle.std.proofs.Common.{◌∙◌, arith}
use Rattle.checkout_book.specs.Sights.{sight, seen}
use Rattle.bench_books.proofs.Pairing.{refused_path}
use Rattle.bench_books.proofs.runs.by_all.Goals as goal

pub refused_card-requires : goal.refused_card-requires
refused_card-requires g c = c.in_ok-begun.ensures.1.new

pub turns-worker-requires-clause-first : goal.turns-worker-requires-clause-first
turns-worker-requires-clause-first g c =
    let b = c.in_ok-begun.ensures in
    (b.0, 2, b.1.idle, b.1.first, (1, _, b.1.planned, c.in-Some.ensures))

pub turns-worker-requires-clause-path : goal.turns-worker-requires-clause-path
turns-worker-requires-clause-path g c =
    let see = sight g.B.Blob.told g.B.Blob.seen g.L.Leaf.seen in
    let b = c.in_ok-begun.ensures in
    refused_path (seen see c.in_ok-begun.begun.card) (seen see c.in-Some.refused) c.in-Some.ensures ∙ b.1.path

pub finish_both-requires : goal.finish_both-requires
finish_both-requires g c =
    let b = c.in_ok-begun.ensures in
    let t = c.turns-worker.ensures b.0 2 b.1.idle b.1.first in
    (b.0, t.0, t.1, omega (arith, b.1.first.workers, b.1.first.drivers))
