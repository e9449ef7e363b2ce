use Rattle.std.proofs.Common.{inr, ap}
use Rattle.clean_drivers.specs.CleanLines.{CleanLineView}
use Rattle.clean_drivers.proofs.line.CleanLine.start_for.Goals as goal

pub returns-in-Ok-clause-cleans : goal.returns-in-Ok-clause-cleans
returns-in-Ok-clause-cleans g c =
    let o = c.in-Ok.ensures.ok in
    inr (c.open.new.self.starter, o.0, o.1, c.ask.ensures.asked o.0 (ap (λ (v : CleanLineView). v.session) o.2))
