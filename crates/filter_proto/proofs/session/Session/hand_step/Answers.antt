use Rattle.std.proofs.Common.{refl, sym, ap}
use Rattle.pkt_line.specs.Packets.{Payload, Flush}
use Rattle.filter_proto.specs.Wires.{SessionSeen}
use Rattle.filter_proto.proofs.More.{reading_fill}
use Rattle.filter_proto.proofs.Hands.{hand_turn, or_false, late_stays}
use Rattle.filter_proto.proofs.session.Session.hand_step.Goals as goal

pub returns-in-Ok-clause-step : goal.returns-in-Ok-clause-step
returns-in-Ok-clause-step g c s r = reading_fill _ _ s _ _ _ _ _ r c.in-Ok.ensures.ok

pub returns-in-Ok-Flush-clause-step : goal.returns-in-Ok-Flush-clause-step
returns-in-Ok-Flush-clause-step g c s r =
    hand_turn s _ _ _ _ _ _ Flush _ r (rw c.in-Ok-Flush.field-0-is at c.in-Ok-Flush.ensures, ap (λ (v : SessionSeen). v.wire) c.skip.ensures) (c.take_state-step.ensures Flush refl c.handshake_after_flush-state.ensures) (sym (or_false _))

pub returns-in-Ok-Payload-clause-step : goal.returns-in-Ok-Payload-clause-step
returns-in-Ok-Payload-clause-step g c s r =
    hand_turn s _ _ _ _ _ _ (Payload c.in-Ok-Payload.line.now) _ r (rw c.in-Ok-Payload.field-0-is at c.in-Ok-Payload.ensures, ap (λ (v : SessionSeen). v.wire) c.skip-in-Ok-Payload.ensures)
    (c.take_state-step-in-Ok-Payload.ensures (Payload c.in-Ok-Payload.line.now) refl c.handshake_after_line-state.ensures) c.clean_after-reading.ensures

pub returns-in-Ok-Flush-clause-stays : goal.returns-in-Ok-Flush-clause-stays
returns-in-Ok-Flush-clause-stays g c = late_stays _ _ _ _ Flush _ (c.take_state-step.ensures Flush refl c.handshake_after_flush-state.ensures)

pub returns-in-Ok-Payload-clause-stays : goal.returns-in-Ok-Payload-clause-stays
returns-in-Ok-Payload-clause-stays g c = late_stays _ _ _ _ (Payload c.in-Ok-Payload.line.now) _ (c.take_state-step-in-Ok-Payload.ensures (Payload c.in-Ok-Payload.line.now) refl c.handshake_after_line-state.ensures)
