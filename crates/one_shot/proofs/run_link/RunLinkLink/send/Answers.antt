use Rattle.one_shot.proofs.RunLinks.{sent_on}
use Rattle.one_shot.proofs.run_link.RunLinkLink.send.Goals as goal

pub invariant_of-self-2 : goal.invariant_of-self-2
invariant_of-self-2 g c =
    sent_on g.W.Work.told (record { link = c.self.inside.link; over = c.self.inside.over; faults = c.self.inside.faults }) c.send.new.self c.args.piece.now c.tells-tells.result
    c.self.invariant c.if-self.false c.tells-tells.ensures.text c.tells-tells.ensures.answer c.in-Ok.ensures.same c.in-Ok.ensures.tells c.in-Ok.ensures.sent
