use Rattle.std.proofs.Common.{Bool, ap, sym}
use Rattle.convert_plan.specs.Card.{card_seen}
use Rattle.driver_desk.specs.Cards.{ready_of}
use Rattle.driver_desk.proofs.served.keep_ready.Goals as goal

pub returns-clause-card : goal.returns-clause-card
returns-clause-card g c =
    ap (λ (b : Bool). record (card_seen g.B.Blob.told g.B.Blob.seen g.L.Leaf.seen c.args.card) {
      ready = ready_of b c.args.prepared c.args.card.ready;
    }) (sym c.if-required.false)
