use Rattle.clean_drivers.proofs.Turns.{turns_are_talks}
use Rattle.clean_drivers.proofs.laws.turns_are_talks.Goals as goal

pub returns : goal.returns
returns c = turns_are_talks
