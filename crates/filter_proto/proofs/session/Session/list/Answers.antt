use Rattle.std.proofs.Common.{ap}
use Rattle.filter_words.specs.Requests.{list_text}
use Rattle.filter_proto.specs.Wires.{SessionSeen}
use Rattle.filter_proto.specs.Lists.{delayed_in}
use Rattle.filter_proto.proofs.Once.{exchange_plain, list_gives}
use Rattle.filter_proto.proofs.session.Session.list.Goals as goal

pub returns-clause-exchange : goal.returns-clause-exchange
returns-clause-exchange g c = rw (ap (λ (v : SessionSeen). v.wire) c.set_standing.ensures) c.ask_list-reply.ensures.exchange

pub returns-clause-complete : goal.returns-clause-complete
returns-clause-complete g c good begins =
    let x = returns-clause-exchange g c in
    list_gives c.args.self.now.wire c.set_standing.new.self.wire x.end _ good x.reply (c.complete.ensures.list (delayed_in c.args.table.now) list_text c.args.self.now.wire c.set_standing.new.self.wire x.end (exchange_plain _ _ _ _ _ _ _ x.exchange) good begins)
