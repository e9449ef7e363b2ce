use Rattle.checkout_engine.proofs.Alike.{alike_words, alike_settings}
use Rattle.checkout_engine.proofs.laws.workers_change_nothing.Goals as goal

pub returns-clause-words : goal.returns-clause-words
returns-clause-words c = alike_words c.one_reading.ensures c.paths_are_ordered.ensures c.equal_outputs_give_equal_talks.ensures c.a_path_gets_one_content.ensures

pub returns-clause-settings : goal.returns-clause-settings
returns-clause-settings c = alike_settings c.one_reading.ensures c.paths_are_ordered.ensures c.equal_outputs_give_equal_talks.ensures c.a_path_gets_one_content.ensures
