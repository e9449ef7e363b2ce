use Rattle.filter_proto.proofs.Opens.{caps_reading, caps_good, caps_broken}
use Rattle.filter_proto.proofs.session.Session.shake_caps.Goals as goal

pub returns-in-Ok-read_caps-clause-after : goal.returns-in-Ok-read_caps-clause-after
returns-in-Ok-read_caps-clause-after g c start se st r =
    let e = rw c.requires.text at c.in-Ok.ensures.sends in
    caps_good start c.args.self.now.wire c.send.new.self.wire c.read_caps.new.self.wire _ se st e c.read_caps.ensures.sent c.read_caps.ensures.stage
    (c.in-Ok-read_caps.ensures.heard start (caps_reading start c.args.self.now.wire c.send.new.self.wire _ _ _ r e))

pub returns-in-Err-clause-after : goal.returns-in-Err-clause-after
returns-in-Err-clause-after g c start se st r =
    let e = rw c.requires.text at c.in-Ok.ensures.sends in
    caps_broken start c.args.self.now.wire c.send.new.self.wire c.read_caps.new.self.wire _ _ se st e c.read_caps.ensures.sent c.read_caps.ensures.stage
    (c.in-Err.ensures.heard start (caps_reading start c.args.self.now.wire c.send.new.self.wire _ _ _ r e))
