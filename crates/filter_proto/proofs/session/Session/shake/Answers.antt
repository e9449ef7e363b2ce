use Rattle.filter_proto.proofs.Opens.{shaken, announced_if}
use Rattle.filter_proto.proofs.session.Session.shake.Goals as goal

pub returns-in-Ok-clause-opening : goal.returns-in-Ok-clause-opening
returns-in-Ok-clause-opening g c =
    shaken c.args.self.now.wire c.send.new.self.wire c.shake_on.new.self.wire _ (rw c.requires.hello at c.in-Ok.ensures.sends) c.shake_on.ensures.after

pub returns-in-Ok-clause-announced : goal.returns-in-Ok-clause-announced
returns-in-Ok-clause-announced g c =
    announced_if c.args.self.now.wire c.send.new.self.wire c.shake_on.new.self.wire _ (rw c.requires.hello at c.in-Ok.ensures.sends) c.shake_on.ensures.after
