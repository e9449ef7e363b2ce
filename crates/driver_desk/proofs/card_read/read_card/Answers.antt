use Rattle.std.proofs.Common.{refl}
use Rattle.convert_plan.specs.Card.{card_seen}
use Rattle.driver_desk.proofs.ReadCards.{keeps_card}
use Rattle.driver_desk.proofs.card_read.read_card.Goals as goal

pub returns-clause-read : goal.returns-clause-read
returns-clause-read g c =
    c.prepared_from.ensures.read (card_seen g.B.Blob.told g.B.Blob.seen g.L.Leaf.seen c.args.card.now) refl refl
    c.read_blob-object.ensures.object

pub returns-clause-kept : goal.returns-clause-kept
returns-clause-kept g c =
    keeps_card (card_seen g.B.Blob.told g.B.Blob.seen g.L.Leaf.seen c.args.card.now) _ _ c.read_blob-object.ensures.told
    c.read_blob-object.ensures.kept

pub returns-clause-counts : goal.returns-clause-counts
returns-clause-counts g c = c.prepared_from.ensures.counts _ _ c.read_blob-object.ensures.faults
