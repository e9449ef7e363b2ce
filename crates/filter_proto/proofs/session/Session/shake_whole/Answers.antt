use Rattle.filter_proto.proofs.session.Session.shake_whole.Goals as goal

pub returns-clause-complete : goal.returns-clause-complete
returns-clause-complete g c = c.complete.ensures.handshake _ _ _ c.shake.ensures.opening
