use Rattle.checkout_engine.proofs.Alike.{alike_talks}
use Rattle.checkout_engine.proofs.laws.talks_decide.Goals as goal

pub returns : goal.returns
returns c = alike_talks c.one_reading.ensures c.paths_are_ordered.ensures c.equal_outputs_give_equal_talks.ensures c.a_path_gets_one_content.ensures
