use Rattle.std.proofs.Common.{◌≡◌, ◌+◌, ◌-◌, ◌*◌, length, Ok}
use Rattle.edge_kit.specs.Files.{IsOpenLeaf}
use Rattle.filter_words.specs.SmudgeReply.{reply_step, reply_start}
use Rattle.filter_proto.specs.Exchanges.{IsReading}
use Rattle.filter_proto.specs.Replies.{HasPut, NotBegun}
use Rattle.filter_proto.proofs.session.Session.read_reply.Given as goal

abbrev pub invariant-loop-reply : goal.invariant-loop-reply
invariant-loop-reply g l = record {
  reading : IsReading (reply_step l.can_delay) reply_start l.initial.self.wire l.self.wire l.reading.room l.reading.phase (HasPut l.can_delay (g.L.Leaf.seen l.initial.leaf) (g.L.Leaf.seen l.leaf) l.reading.put);
  begins : NotBegun l.reading.phase (g.L.Leaf.seen l.initial.leaf) (g.L.Leaf.seen l.leaf) l.reading.put;
  usable : l.reading.put ≡ Ok tt → IsOpenLeaf (g.L.Leaf.seen l.leaf).state;
  sent : l.self.wire.sent ≡ l.initial.self.wire.sent;
  stage : l.self.wire.stage ≡ l.initial.self.wire.stage;
  rest : l.self ≡ record l.initial.self { wire = l.self.wire };
}

abbrev pub decreases-loop-reply : goal.decreases-loop-reply
decreases-loop-reply g l = 2 * l.reading.room + (65520 - length l.self.wire.unread)
