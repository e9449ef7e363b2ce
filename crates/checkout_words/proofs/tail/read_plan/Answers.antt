use Rattle.checkout_words.proofs.Tails.{plan_found, plan_refused, reads_fault}
use Rattle.checkout_words.proofs.tail.read_plan.Goals as goal

pub returns-in_err-matches_in : goal.returns-in_err-matches_in
returns-in_err-matches_in c = reads_fault _ _ _ c.from_residual.result (plan_refused _ c.tail_parser.ensures _ c.requires)
    c.in_err-matches_in.ensures c.from_residual.ensures.1

pub returns : goal.returns
returns c = plan_found _ c.tail_parser.ensures _ c.requires _ c.in_ok-matches_in.ensures
