use Rattle.checkout_book.specs.Sights.{sight}
use Rattle.writer_pool.proofs.Acting.{seed_path}
use Rattle.writer_pool.proofs.OverWorks.{works_fit}
use Rattle.writer_pool.proofs.laws.works_fit_their_contents.Goals as goal

pub returns : goal.returns
returns g c starts d seed works is cards text texts =
    works_fit d starts works (seed_path g.S.Starter.seen (sight g.B.Blob.told g.B.Blob.seen g.L.Leaf.seen) starts d
    seed is works cards) text texts
