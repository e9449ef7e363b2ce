use Rattle.std.proofs.Common.{◌∙◌, ap, drop}
use Rattle.pkt_line.proofs.Fronts.{payload_stands}
use Rattle.pkt_line.proofs.reader.lend.Goals as goal

pub returns-in-Payload-clause-peeks : goal.returns-in-Payload-clause-peeks
returns-in-Payload-clause-peeks c =
    let f = rw c.in-Payload.is at c.requires in
    payload_stands c.in-Payload.size c.args.unread.now c.split_at-in-Payload.result.1.now f.1 f.2 f.3 f.0
    (c.split_at-in-Payload.ensures.back ∙ ap (drop 4) c.split_at.ensures.front)
