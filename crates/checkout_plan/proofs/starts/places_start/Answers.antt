use Rattle.checkout_plan.proofs.Named.{places_start}
use Rattle.checkout_plan.proofs.starts.places_start.Goals as goal

pub returns : goal.returns
returns c = places_start
