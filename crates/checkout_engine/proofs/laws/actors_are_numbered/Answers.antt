use Rattle.checkout_engine.proofs.Headline.{actors_of}
use Rattle.checkout_engine.proofs.laws.actors_are_numbered.Goals as goal

pub returns : goal.returns
returns c = actors_of c.drivers_are_in_use.ensures c.a_history_keeps_its_size.ensures c.own_entries_tell_what_is_in_hand.ensures
