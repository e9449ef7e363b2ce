use Rattle.driver_line.proofs.SameCauses.{same_causes}
use Rattle.driver_line.proofs.laws.counts_tell_the_cause.Goals as goal

pub returns : goal.returns
returns c = same_causes
