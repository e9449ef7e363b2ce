use Rattle.driver_line.proofs.EqualSessions.{equal_sessions}
use Rattle.driver_line.proofs.laws.equal_sessions_give_equal_talks.Goals as goal

pub returns : goal.returns
returns c = equal_sessions c.one_part.ensures.reply c.one_part.ensures.list c.one_part.ensures.handshake
