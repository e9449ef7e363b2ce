use Rattle.std.proofs.Common.{arith, refl, ◌∙◌}
use Rattle.filter_proto.proofs.Told.{rest_on}
use Rattle.filter_proto.proofs.Listings.{list_starts}
use Rattle.filter_proto.proofs.session.Session.read_list.Goals as goal

pub loop-reply-init : goal.loop-reply-init
loop-reply-init g c = record {
  reading = list_starts c.args.self.now.wire _ c.args.table.now refl;
  fits = omega arith;
  sent = refl;
  stage = refl;
  rest = refl;
}

pub loop-reply-preserved : goal.loop-reply-preserved
loop-reply-preserved g c = record {
  reading = c.in-On.ensures.step _ _ c.loop-reply.invariant.reading;
  fits = c.in-On.ensures.count;
  sent = c.in-On.ensures.sent ∙ c.loop-reply.invariant.sent;
  stage = c.in-On.ensures.stage ∙ c.loop-reply.invariant.stage;
  rest = rest_on c.args.self.now _ _ c.loop-reply.invariant.rest c.in-On.ensures.rest;
}

pub returns-in-End-clause-read : goal.returns-in-End-clause-read
returns-in-End-clause-read g c = c.in-End.ensures.step _ _ c.loop-reply.invariant.reading
