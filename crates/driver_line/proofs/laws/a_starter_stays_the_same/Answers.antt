use Rattle.driver_line.proofs.Starters.{same_starter}
use Rattle.driver_line.proofs.laws.a_starter_stays_the_same.Goals as goal

pub returns : goal.returns
returns c paths v w es run = same_starter paths v w es run
