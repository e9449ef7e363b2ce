use Rattle.checkout_paths.proofs.Seeds.{below}
use Rattle.checkout_paths.proofs.laws.drivers_are_in_use.Goals as goal

pub returns : goal.returns
returns c = λ drivers paths are. below drivers paths are.of_paths
