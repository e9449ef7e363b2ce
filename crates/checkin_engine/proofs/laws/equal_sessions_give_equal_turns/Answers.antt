use Rattle.checkin_engine.proofs.EqualTurns.{equal_turns}
use Rattle.checkin_engine.proofs.laws.equal_sessions_give_equal_turns.Goals as goal

pub returns : goal.returns
returns c = equal_turns c.equal_sessions_give_equal_answers.ensures
