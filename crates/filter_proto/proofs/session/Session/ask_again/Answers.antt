use Rattle.std.proofs.Common.{ap, false, []}
use Rattle.filter_words.specs.Requests.{first_text}
use Rattle.filter_proto.specs.Wires.{SessionSeen}
use Rattle.filter_proto.proofs.Once.{exchange_plain}
use Rattle.filter_proto.proofs.session.Session.ask_again.Goals as goal

pub returns-clause-complete : goal.returns-clause-complete
returns-clause-complete g c =
    rw (ap (λ (v : SessionSeen). v.wire) c.set_standing.ensures) (c.complete.ensures.reply false (first_text c.args.path.now c.args.name.now false []) c.args.self.now.wire c.request-asked.new.self.wire _ (exchange_plain _ _ _ _ _ _ _ c.request-asked.ensures.exchange))
