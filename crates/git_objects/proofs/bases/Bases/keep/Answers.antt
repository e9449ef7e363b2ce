use Rattle.std.proofs.Common.{arith}
use Rattle.git_objects.specs.contracts.bases.SpotPartialEq.TheImpl.{ghosts}
use Rattle.git_objects.proofs.CostLemmas.{cost_put}
use Rattle.git_objects.proofs.bases.Bases.keep.Goals as goal

pub invariant_of-self-clause-counted : goal.invariant_of-self-clause-counted
invariant_of-self-clause-counted c =
    omega (
      arith,
      cost_put ghosts.eq c.make_room.new.self.kept c.put.new.self c.args.spot c.args.object c.in-Ok.ensures.entries,
      c.cost_of-cost.ensures,
      c.make_room.new.self.counted,
    )
