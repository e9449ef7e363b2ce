use Rattle.std.proofs.Common.{refl, ap, sym, subst, ◌∙◌, ◌≡◌, Some}
use Rattle.driver_line.specs.Lines.{LineView, IsLive}
use Rattle.driver_line.proofs.Lists.{list_says, list_names, list_table, list_over, list_on}
use Rattle.driver_line.proofs.Opened.{ended_from}
use Rattle.driver_line.proofs.line.Line.list.Goals as goal

pub returns-then-ends_session-clause-says : goal.returns-then-ends_session-clause-says
returns-then-ends_session-clause-says g c paths late e same =
    let is : c.args.self.now.session ≡ Some c.in-Some.session = sym (ap (λ (v : LineView). v.session) c.self.view_is) ∙ c.in-Some.is in
    list_says paths c.args.numbers.now late c.args.self.now c.finish.new.self c.in-Some.session c.list-reply.new.self _ _ c.list-reply.result is (subst IsLive is c.requires.live) c.requires.none e same c.list-reply.ensures.exchange
    (list_over c.list-reply.result c.args.self.now c.finish.new.self c.in-Some.session c.list-reply.new.self (c.ends_session.ensures.yes c.if-ends_session.true) c.list-reply.ensures.standing
    (ended_from _ _ _ _ _ (ap (λ (v : LineView). v.starter) c.self.view_is) (c.finish.ensures.ended c.list-reply.new.self refl)))

pub returns-then-ends_session-clause-names : goal.returns-then-ends_session-clause-names
returns-then-ends_session-clause-names g c known a = list_names known c.args.numbers.now _ _ _ _ c.list-reply.result c.list-reply.ensures.exchange c.requires.none a

pub returns-then-ends_session-clause-table : goal.returns-then-ends_session-clause-table
returns-then-ends_session-clause-table g c = list_table _ _ _ _ c.list-reply.result c.list-reply.ensures.exchange

pub returns-else-ends_session-clause-says : goal.returns-else-ends_session-clause-says
returns-else-ends_session-clause-says g c paths late e same =
    let is : c.args.self.now.session ≡ Some c.in-Some.session = sym (ap (λ (v : LineView). v.session) c.self.view_is) ∙ c.in-Some.is in
    list_says paths c.args.numbers.now late c.args.self.now _ c.in-Some.session c.list-reply.new.self _ _ c.list-reply.result is (subst IsLive is c.requires.live) c.requires.none e same c.list-reply.ensures.exchange
    (list_on c.list-reply.result c.args.self.now c.in-Some.session c.list-reply.new.self _ (c.ends_session.ensures.no c.if-ends_session.false) c.list-reply.ensures.standing (ap (λ (v : LineView). v.starter) c.self.view_is))

pub returns-else-ends_session-clause-names : goal.returns-else-ends_session-clause-names
returns-else-ends_session-clause-names g c known a = list_names known c.args.numbers.now _ _ _ _ c.list-reply.result c.list-reply.ensures.exchange c.requires.none a

pub returns-else-ends_session-clause-table : goal.returns-else-ends_session-clause-table
returns-else-ends_session-clause-table g c = list_table _ _ _ _ c.list-reply.result c.list-reply.ensures.exchange
