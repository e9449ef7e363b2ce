use Rattle.std.proofs.Common.{rules}
use Rattle.checkout_engine.proofs.report.status_of.Goals as goal

pub returns-then-has_failed : goal.returns-then-has_failed
returns-then-has_failed c = search rules
