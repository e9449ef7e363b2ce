use Rattle.std.proofs.Common.{refl}
use Rattle.one_shot.proofs.RunLinks.{read_on}
use Rattle.one_shot.proofs.run_link.RunLinkLink.read.Goals as goal

pub invariant_of-self : goal.invariant_of-self
invariant_of-self g c =
    read_on g.W.Work.told (record { link = c.self.inside.link; over = c.self.inside.over; faults = c.self.inside.faults }) c.read.new.self _ c.in-Ok.count c.read.new.into c.tells-tells.result
    c.self.invariant c.if-self.false c.tells-tells.ensures.text c.tells-tells.ensures.answer c.in-Ok.ensures.host c.in-Ok.ensures.tells c.in-Ok.ensures.taken c.in-Ok.ensures.front.none refl
