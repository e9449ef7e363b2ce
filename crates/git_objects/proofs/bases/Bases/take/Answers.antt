use Rattle.std.proofs.Common.{ap, sym, arith}
use Rattle.git_objects.specs.Costs.{whole_cost}
use Rattle.git_objects.proofs.CostLemmas.{cost_taken, cost_removed}
use Rattle.git_objects.proofs.bases.Bases.take.Goals as goal

pub invariant_of-self : goal.invariant_of-self
invariant_of-self c =
    record {
      counted = omega (
        arith,
        cost_removed _ c.args.self.now.kept c.pop.new.self c.pop.ensures.entries,
        c.args.self.now.counted,
      );
      within = omega (arith, c.args.self.now.within);
    }

pub overflow_sub-self : goal.overflow_sub-self
overflow_sub-self c =
    omega (
      arith,
      cost_taken _ c.args.self.now.kept.entries _ (sym c.in_ok-object.ensures.value),
      c.cost_of.ensures,
      c.args.self.now.counted,
    )

pub invariant_of-self-2-clause-counted : goal.invariant_of-self-2-clause-counted
invariant_of-self-2-clause-counted c =
    omega (
      arith,
      ap (λ x. whole_cost x.entries) c.pop.ensures.entries,
      cost_taken _ c.args.self.now.kept.entries _ (sym c.in_ok-object.ensures.value),
      c.cost_of.ensures,
      c.args.self.now.counted,
    )
