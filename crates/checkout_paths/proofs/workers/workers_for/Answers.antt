use Rattle.std.proofs.Common.{rules}
use Rattle.checkout_paths.proofs.workers.workers_for.Goals as goal

pub returns : goal.returns
returns c = search rules
