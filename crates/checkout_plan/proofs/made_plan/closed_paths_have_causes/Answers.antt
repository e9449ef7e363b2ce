use Rattle.checkout_plan.proofs.Closed.{closed_causes}
use Rattle.checkout_plan.proofs.made_plan.closed_paths_have_causes.Goals as goal

pub returns : goal.returns
returns c = closed_causes
