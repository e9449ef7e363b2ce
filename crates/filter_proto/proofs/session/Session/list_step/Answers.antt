use Rattle.std.proofs.Common.{ap}
use Rattle.pkt_line.specs.Packets.{Payload, Flush}
use Rattle.filter_proto.specs.Wires.{SessionSeen}
use Rattle.filter_proto.proofs.Listings.{list_packet, list_fill, list_stops, list_bad}
use Rattle.filter_proto.proofs.session.Session.list_step.Goals as goal

pub returns-in-Ok-clause-step : goal.returns-in-Ok-clause-step
returns-in-Ok-clause-step g c s before r = list_fill s _ _ _ before _ r c.in-Ok.ensures.ok

pub returns-in-Ok-Flush-clause-step : goal.returns-in-Ok-Flush-clause-step
returns-in-Ok-Flush-clause-step g c s before r =
    list_packet s c.args.self.now.wire _ c.args.listing.now _ Flush _ before c.args.table.now _ r (rw c.in-Ok-Flush.field-0-is at c.in-Ok-Flush.ensures, ap (λ (v : SessionSeen). v.wire) c.skip.ensures) (c.take_list_flush-step.ensures.takes c.args.table.now)

pub returns-in-Ok-Payload-clause-step : goal.returns-in-Ok-Payload-clause-step
returns-in-Ok-Payload-clause-step g c s before r =
    list_packet s c.args.self.now.wire _ c.args.listing.now _ (Payload c.in-Ok-Payload.line.now) _ before c.args.table.now _ r (rw c.in-Ok-Payload.field-0-is at c.in-Ok-Payload.ensures, ap (λ (v : SessionSeen). v.wire) c.skip-in-Ok-Payload.ensures) c.take_list_line-step.ensures.takes

pub returns-in-Err-fill-clause-step : goal.returns-in-Err-fill-clause-step
returns-in-Err-fill-clause-step g c s before r = list_stops s _ _ _ before _ _ r (rw c.in-Ok-NeedMore.field-0-is at c.in-Ok-NeedMore.ensures) c.in-Err-fill.ensures.err

pub returns-in-Err-clause-step : goal.returns-in-Err-clause-step
returns-in-Err-clause-step g c s before r = list_bad s _ _ before _ r c.in-Err.ensures
