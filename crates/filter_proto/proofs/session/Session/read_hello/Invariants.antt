use Rattle.std.proofs.Common.{◌≡◌, ◌+◌, ◌-◌, ◌*◌, length, true}
use Rattle.filter_words.specs.Handshake.{handshake_step, handshake_start}
use Rattle.filter_proto.specs.Wires.{Wire}
use Rattle.filter_proto.specs.Exchanges.{IsReading}
use Rattle.filter_proto.specs.Openings.{HelloWith, is_early}
use Rattle.filter_proto.proofs.session.Session.read_hello.Given as goal

abbrev pub invariant-loop-self : goal.invariant-loop-self
invariant-loop-self g l = record {
  reading : (start : Wire) → IsReading handshake_step handshake_start start l.initial.self.wire l.initial.reading.room l.initial.reading.phase (HelloWith true l.initial.reading.clean) → IsReading handshake_step handshake_start start l.self.wire l.reading.room l.reading.phase (HelloWith (is_early l.reading.phase) l.reading.clean);
  begun : is_early l.initial.reading.phase ≡ true;
  sent : l.self.wire.sent ≡ l.initial.self.wire.sent;
  stage : l.self.wire.stage ≡ l.initial.self.wire.stage;
  rest : l.self ≡ record l.initial.self { wire = l.self.wire };
}

abbrev pub decreases-loop-self : goal.decreases-loop-self
decreases-loop-self g l = 2 * l.reading.room + (65520 - length l.self.wire.unread)
