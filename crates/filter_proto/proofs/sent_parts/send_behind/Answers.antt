use Rattle.std.proofs.Common.{arith}
use Rattle.pkt_line.specs.Packets.{Flush}
use Rattle.filter_proto.proofs.Sent.{underway_first, underway_next, underway_stops, underway_last}
use Rattle.filter_proto.proofs.sent_parts.send_behind.Goals as goal

pub loop-rest-init : goal.loop-rest-init
loop-rest-init g c = record { under = underway_first _ _ _ }

pub loop-rest-smaller : goal.loop-rest-smaller
loop-rest-smaller g c = grind (arith, c.split_at.ensures.back_len, c.loop-rest-test.true)

pub loop-rest-preserved : goal.loop-rest-preserved
loop-rest-preserved g c = record {
  under = underway_next _ _ _ _ _ _ _ _ _ c.loop-rest.invariant.under (omega (arith, c.loop-rest-test.true)) c.split_at.ensures.front c.split_at.ensures.back c.in-Ok.ensures.sends c.in-Ok.ensures.empty;
}

pub returns-in-Err : goal.returns-in-Err
returns-in-Err g c =
    underway_stops (c.spells.ensures Flush (omega arith)).sized _ _ _ _ _ _ _ _ _ c.loop-rest.invariant.under (omega (arith, c.loop-rest-test.true)) c.split_at.ensures.front c.split_at.ensures.back c.in-Err.ensures.sends

pub returns : goal.returns
returns g c = underway_last (c.spells.ensures Flush (omega arith)).sized _ _ _ _ _ _ _ c.loop-rest.invariant.under c.send_last.ensures
