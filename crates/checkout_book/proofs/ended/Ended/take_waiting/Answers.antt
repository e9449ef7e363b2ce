use Rattle.checkout_book.specs.Sights.{sight}
use Rattle.checkout_book.proofs.Turning.{taken_if, claim_grown_if}
use Rattle.checkout_book.proofs.ended.Ended.take_waiting.Goals as goal

pub returns-clause-card : goal.returns-clause-card
returns-clause-card g c =
    taken_if (sight g.B.Blob.told g.B.Blob.seen g.L.Leaf.seen) c.a_claim_takes_its_path.ensures 0
    c.args.self.now.shelf c.claim.new.self c.claim.result c.claim.ensures.some c.requires.sound

pub returns-clause-history : goal.returns-clause-history
returns-clause-history g c =
    claim_grown_if (sight g.B.Blob.told g.B.Blob.seen g.L.Leaf.seen) 0 c.args.self.now.shelf c.claim.new.self
    c.claim.result c.claim.ensures.some c.requires.sound
