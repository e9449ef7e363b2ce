use Rattle.std.proofs.Common.{ap, arith}
use Rattle.checkout_book.specs.Sights.{sight}
use Rattle.writer_pool.specs.Sealing.{leaf_at}
use Rattle.writer_pool.proofs.PathLeaves.{at_paths}
use Rattle.writer_pool.proofs.laws.a_leaf_is_that_of_its_path.Goals as goal

pub returns : goal.returns
returns g c starts history cards blobs leaves ends =
    at_paths (sight g.B.Blob.told g.B.Blob.seen g.L.Leaf.seen) starts history cards leaves 0 starts blobs leaves ends
    (λ i. ap (leaf_at starts leaves) (omega arith))
