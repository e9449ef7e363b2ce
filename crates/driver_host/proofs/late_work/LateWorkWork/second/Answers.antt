use Rattle.std.proofs.Common.{None}
use Rattle.driver_host.specs.LateWorks.{kept_at}
use Rattle.driver_host.proofs.Late.{kept_after, others_keep}
use Rattle.driver_host.proofs.late_work.LateWorkWork.second.Goals as goal

pub returns-in-Some-clause-others : goal.returns-in-Some-clause-others
returns-in-Some-clause-others c =
    others_keep (kept_at c.args.self.now.kept) (kept_at c.remove.new.self) c.args.path.now None
    (kept_after c.args.path.now c.args.self.now.kept c.remove.new.self None c.in-Some.ensures.updates)
