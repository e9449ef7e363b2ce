use Rattle.std.proofs.Common.{false}
use Rattle.clean_drivers.proofs.Outputs.{equal_answers}
use Rattle.clean_drivers.proofs.laws.equal_sessions_give_equal_answers.Goals as goal

pub returns : goal.returns
returns c = equal_answers (c.same_heard.ensures.reply false) c.same_heard.ensures.handshake
