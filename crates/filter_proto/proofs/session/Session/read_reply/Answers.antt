use Rattle.std.proofs.Common.{refl, ◌∙◌}
use Rattle.filter_proto.proofs.Told.{rest_on}
use Rattle.filter_proto.proofs.More.{reading_starts}
use Rattle.filter_proto.proofs.Lines.{put_starts}
use Rattle.filter_proto.proofs.session.Session.read_reply.Goals as goal

pub loop-reply-init : goal.loop-reply-init
loop-reply-init g c = record {
  reading = reading_starts _ _ c.args.self.now.wire _ (put_starts _ c.requires);
  begins = (refl, refl);
  usable = λ e. c.requires;
  sent = refl;
  stage = refl;
  rest = refl;
}

pub loop-reply-preserved : goal.loop-reply-preserved
loop-reply-preserved g c = record {
  reading = c.in-On.ensures.step _ _ c.loop-reply.invariant.reading;
  begins = c.in-On.ensures.begins _ c.loop-reply.invariant.begins;
  usable = c.in-On.ensures.usable;
  sent = c.in-On.ensures.sent ∙ c.loop-reply.invariant.sent;
  stage = c.in-On.ensures.stage ∙ c.loop-reply.invariant.stage;
  rest = rest_on c.args.self.now _ _ c.loop-reply.invariant.rest c.in-On.ensures.rest;
}

pub returns-in-End-clause-heard : goal.returns-in-End-clause-heard
returns-in-End-clause-heard g c = c.in-End.ensures.step _ _ c.loop-reply.invariant.reading
