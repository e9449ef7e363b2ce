use Rattle.checkout_engine.proofs.Rehearsals.{alike_rehearsals}
use Rattle.checkout_engine.proofs.laws.rehearsals_are_alike.Goals as goal

pub returns : goal.returns
returns c = alike_rehearsals c.one_reading.ensures c.paths_are_ordered.ensures c.equal_outputs_give_equal_talks.ensures c.a_path_gets_one_content.ensures
