use Rattle.reports.proofs.Fronts.{grow}
use Rattle.reports.proofs.laws.fronts_grow.Goals as goal

pub returns : goal.returns
returns c = grow
