use Rattle.driver_line.proofs.SameTalks.{same_heard}
use Rattle.driver_line.proofs.laws.equal_outputs_give_equal_talks.Goals as goal

pub returns : goal.returns
returns c = same_heard c.one_part.ensures.reply c.one_part.ensures.list c.one_part.ensures.handshake
