use Rattle.std.proofs.Common.{Ok, refl}
use Rattle.clean_drivers.proofs.session_start.end_unopened.Goals as goal

pub returns-clause-ended : goal.returns-clause-ended
returns-clause-ended g c unread = record {
  link = g.S.Link.Link.seen c.args.link;
  shut = record { input = Ok tt; end = Ok tt; kept = refl; counts = (refl, refl, refl) };
  kept = c.end.ensures.back;
  out = c.end.ensures.out;
}
