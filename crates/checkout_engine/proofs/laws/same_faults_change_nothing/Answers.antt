use Rattle.checkout_engine.proofs.SameFaults.{same_faults}
use Rattle.checkout_engine.proofs.laws.same_faults_change_nothing.Goals as goal

pub returns : goal.returns
returns c = same_faults c.one_reading.ensures c.paths_are_ordered.ensures c.equal_sessions_give_equal_talks.ensures c.a_path_gets_one_content.ensures
