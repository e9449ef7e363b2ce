use Rattle.driver_line.proofs.OneWitness.{has_items}
use Rattle.driver_line.proofs.laws.exchanges_are_spelled.Goals as goal

pub returns : goal.returns
returns c paths v w es none ended run = has_items paths v w es none ended run
