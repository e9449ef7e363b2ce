use Rattle.std.proofs.Common.{◌++◌, length}
use Rattle.filter_words.specs.Requests.{content_text}
use Rattle.filter_proto.proofs.Sent.{IsUnderway}
use Rattle.filter_proto.proofs.sent_parts.send_behind.Given as goal

abbrev pub invariant-loop-rest : goal.invariant-loop-rest
invariant-loop-rest g l = record {
  under : IsUnderway (g.K.Link.seen l.initial.link) (g.K.Link.seen l.link) (l.initial.text.items ++ content_text l.initial.content) l.text.items l.rest;
}

abbrev pub decreases-loop-rest : goal.decreases-loop-rest
decreases-loop-rest g l = length l.rest
