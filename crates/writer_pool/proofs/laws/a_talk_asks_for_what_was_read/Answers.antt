use Rattle.checkout_book.specs.Sights.{sight}
use Rattle.writer_pool.proofs.Acting.{seed_path}
use Rattle.writer_pool.proofs.OverWorks.{asked_each, asked_in_order, asked_read}
use Rattle.writer_pool.proofs.laws.a_talk_asks_for_what_was_read.Goals as goal

pub returns-clause-asked : goal.returns-clause-asked
returns-clause-asked g c starts d seed works is cards k w at =
    asked_read d starts works (seed_path g.S.Starter.seen (sight g.B.Blob.told g.B.Blob.seen g.L.Leaf.seen) starts d
    seed is works cards) k w at

pub returns-clause-each : goal.returns-clause-each
returns-clause-each g c works p there = asked_each works p there

pub returns-clause-rises : goal.returns-clause-rises
returns-clause-rises g c starts d seed works is cards i j p q lt a b =
    asked_in_order d starts works (seed_path g.S.Starter.seen (sight g.B.Blob.told g.B.Blob.seen g.L.Leaf.seen)
    starts d seed is works cards) i j p q lt a b
