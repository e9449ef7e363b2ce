use Rattle.checkout_book.specs.Sights.{sight}
use Rattle.card_worker.proofs.WorkTurns.{planned_to_write, has_verdict, shown}
use Rattle.card_worker.proofs.laws.a_claimed_card_may_be_written.Goals as goal

pub returns-clause-write : goal.returns-clause-write
returns-clause-write g c cards k raw new planned so =
    planned_to_write (sight g.B.Blob.told g.B.Blob.seen g.L.Leaf.seen) cards k raw new planned so

pub returns-clause-verdict : goal.returns-clause-verdict
returns-clause-verdict g c card raw ready o so read = has_verdict card raw ready o so read

pub returns-clause-shown : goal.returns-clause-shown
returns-clause-shown g c cards k w n o planned kept wrote =
    shown (sight g.B.Blob.told g.B.Blob.seen g.L.Leaf.seen) cards k w n o planned kept wrote
