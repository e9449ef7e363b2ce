use Rattle.attr_stack.proofs.Decisions.{by-rule}
use Rattle.attr_stack.proofs.laws.pairs_decide_by_rule.Goals as goal

pub returns : goal.returns
returns c = by-rule
