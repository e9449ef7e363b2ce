use Rattle.std.proofs.Common.{refl, sym, ap, subst, ◌≡◌, Some, ◌∙◌}
use Rattle.edge_kit.specs.Starters.{StarterSeen}
use Rattle.driver_line.specs.Lines.{IsOpen, LineView}
use Rattle.driver_line.proofs.Ends.{first_says, after_live, after_over}
use Rattle.driver_line.proofs.Ends.{goes_live, goes_over}
use Rattle.driver_line.proofs.Opened.{ended_from}
use Rattle.driver_line.proofs.line.Line.ask.Goals as goal

pub returns-then-not-live-clause-says : goal.returns-then-not-live-clause-says
returns-then-not-live-clause-says g c p =
    let is : c.args.self.now.session ≡ Some c.in-Some.session = sym (ap (λ (v : LineView). v.session) c.self.view_is) ∙ c.in-Some.is in
    let ready = subst IsOpen is c.requires.open in
    first_says p _ _ _ c.args.self.now c.finish.new.self c.in-Some.session _ _ _ _ _ is ready.0 ready.1 c.ask_in-asked.ensures.answered
    (after_over c.args.self.now c.finish.new.self c.in-Some.session c.ask_in-asked.new.session _ c.ask_in-asked.ensures.after.standing (λ l. absurd (cc (c.live.ensures.1 l, c.if-not-live.true)))
    (ended_from _ _ _ _ _ (ap (λ (v : LineView). v.starter) c.self.view_is) (c.finish.ensures.ended c.ask_in-asked.new.session refl)))

pub returns-else-not-live-clause-says : goal.returns-else-not-live-clause-says
returns-else-not-live-clause-says g c p =
    let is : c.args.self.now.session ≡ Some c.in-Some.session = sym (ap (λ (v : LineView). v.session) c.self.view_is) ∙ c.in-Some.is in
    let ready = subst IsOpen is c.requires.open in
    first_says p _ _ _ c.args.self.now _ c.in-Some.session _ _ _ _ _ is ready.0 ready.1 c.ask_in-asked.ensures.answered
    (after_live c.args.self.now _ c.in-Some.session c.ask_in-asked.new.session _ c.ask_in-asked.ensures.after.caps c.ask_in-asked.ensures.after.standing (c.live.ensures.0 c.if-not-live.false)
    (ap (λ (h : StarterSeen). record { starter = h; session = Some c.ask_in-asked.new.session }) (ap (λ (v : LineView). v.starter) c.self.view_is)))

pub returns-then-not-live-clause-goes : goal.returns-then-not-live-clause-goes
returns-then-not-live-clause-goes g c s is =
    goes_over s c.ask_in-asked.new.session _ c.ask_in-asked.ensures.after.standing (λ l. absurd (cc (c.live.ensures.1 l, c.if-not-live.true))) (c.finish.ensures.ended c.ask_in-asked.new.session refl).none

pub returns-else-not-live-clause-goes : goal.returns-else-not-live-clause-goes
returns-else-not-live-clause-goes g c s is =
    let same : Some c.in-Some.session ≡ Some s = sym c.in-Some.is ∙ (ap (λ (v : LineView). v.session) c.self.view_is ∙ is) in
    goes_live c.in-Some.session s c.ask_in-asked.new.session _ same c.ask_in-asked.ensures.after.caps c.ask_in-asked.ensures.after.standing (c.live.ensures.0 c.if-not-live.false)
