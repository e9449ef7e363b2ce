use Rattle.std.proofs.Common.{◌-◌, length, ap, sym, arith}
use Rattle.git_objects.specs.Costs.{whole_cost}
use Rattle.git_objects.proofs.CostLemmas.{cost_popped, cost_first}
use Rattle.git_objects.proofs.bases.Bases.drop_oldest.Goals as goal

pub overflow_sub-self : goal.overflow_sub-self
overflow_sub-self c =
    let entries = c.args.self.now.kept.entries in
    omega (
      arith,
      cost_popped (length entries - 1) entries _ (sym c.in-Some.ensures.value),
      c.cost_of.ensures,
      c.args.self.now.counted,
    )

pub invariant_of-self-clause-counted : goal.invariant_of-self-clause-counted
invariant_of-self-clause-counted c =
    let entries = c.args.self.now.kept.entries in
    omega (
      arith,
      ap (λ x. whole_cost x.entries) c.pop_lru.ensures.entries,
      cost_popped (length entries - 1) entries _ (sym c.in-Some.ensures.value),
      c.cost_of.ensures,
      c.args.self.now.counted,
    )

pub invariant_of-self-in_default-clause-counted : goal.invariant_of-self-in_default-clause-counted
invariant_of-self-in_default-clause-counted c =
    let entries = c.args.self.now.kept.entries in
    omega (
      arith,
      ap (λ x. whole_cost x.entries) c.pop_lru.ensures.entries,
      cost_first (length entries - 1) entries,
      c.args.self.now.counted,
    )
