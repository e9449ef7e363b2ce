use Rattle.std.proofs.Common.{ap}
use Rattle.filter_proto.specs.Wires.{SessionSeen}
use Rattle.filter_proto.proofs.Once.{exchange_plain}
use Rattle.filter_proto.proofs.session.Session.ask.Goals as goal

pub returns-clause-exchange : goal.returns-clause-exchange
returns-clause-exchange g c = rw (ap (λ (v : SessionSeen). v.wire) c.set_standing.ensures) (rw c.caps-can_delay.ensures at c.request-asked.ensures.exchange)

pub returns-clause-complete : goal.returns-clause-complete
returns-clause-complete g c = c.complete.ensures.reply _ _ _ _ _ (exchange_plain _ _ _ _ _ _ _ (returns-clause-exchange g c))
