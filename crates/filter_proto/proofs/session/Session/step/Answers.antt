use Rattle.std.proofs.Common.{ap}
use Rattle.pkt_line.specs.Packets.{Payload}
use Rattle.filter_proto.specs.Wires.{SessionSeen}
use Rattle.filter_proto.proofs.More.{reading_fill, reading_stops, reading_bad, reading_on}
use Rattle.filter_proto.specs.declared.asked.Reading.{Reading}
use Rattle.filter_proto.proofs.Lines.{flush_steps, put_more, stopped, line_long}
use Rattle.filter_proto.proofs.session.Session.step.Goals as goal

pub returns-in-Ok-clause-step : goal.returns-in-Ok-clause-step
returns-in-Ok-clause-step g c s before r = reading_fill _ _ s _ _ _ _ _ r c.in-Ok.ensures.ok

pub returns-in-Ok-Flush-clause-step : goal.returns-in-Ok-Flush-clause-step
returns-in-Ok-Flush-clause-step g c s before r = flush_steps _ s _ _ _ _ _ before _ r (rw c.in-Ok-Flush.field-0-is at c.in-Ok-Flush.ensures, ap (λ (v : SessionSeen). v.wire) c.skip.ensures) c.take_flush-step.ensures

pub returns-then-fits-clause-step : goal.returns-then-fits-clause-step
returns-then-fits-clause-step g c s before r =
    let st = rw c.in-Ok-Payload.field-0-is at c.in-Ok-Payload.ensures in
    let e = c.take_line-fits.ensures in
    let yes = c.if-fits.true in
    reading_on _ _ s _ _ _ _ _ _ _ _ (Payload c.in-Ok-Payload.piece.now) r (st, ap (λ (v : SessionSeen). v.wire) c.skip-in-Ok-Payload.ensures) (e.room yes) (e.phase yes c.args.can_delay)
    (put_more c.args.can_delay c.args.reading.now.phase (Payload c.in-Ok-Payload.piece.now) before _ _ _ _ (e.put yes before))

pub returns-else-fits-clause-step : goal.returns-else-fits-clause-step
returns-else-fits-clause-step g c s before r =
    let st = rw c.in-Ok-Payload.field-0-is at c.in-Ok-Payload.ensures in
    let e = c.take_line-fits.ensures in
    let no = c.if-fits.false in
    line_long c.args.can_delay s _ _ _ _ before _ _ _ _ (Payload c.in-Ok-Payload.piece.now) r (st, ap (λ (v : SessionSeen). v.wire) c.skip-in-Ok-Payload.ensures) (e.long no).0 (ap (λ (x : Reading). x.put) (e.long no).1) (e.long no).2

pub returns-in-Err-fill-clause-step : goal.returns-in-Err-fill-clause-step
returns-in-Err-fill-clause-step g c s before r = stopped c.args.can_delay s _ _ before _ _ (reading_stops _ _ s _ _ _ _ _ _ r (rw c.in-Ok-NeedMore.field-0-is at c.in-Ok-NeedMore.ensures) c.in-Err-fill.ensures.err)

pub returns-in-Err-clause-step : goal.returns-in-Err-clause-step
returns-in-Err-clause-step g c s before r = stopped c.args.can_delay s _ _ before _ _ (reading_bad _ _ s _ _ _ _ r c.in-Err.ensures)
