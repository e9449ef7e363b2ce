use Rattle.wild_match.proofs.ReadMembers.{close-some, close-none}
use Rattle.wild_match.proofs.sets.close_at.Goals as goal

pub returns-in-Some-clause-value : goal.returns-in-Some-clause-value
returns-in-Some-clause-value c = close-some c.args.text.now c.in-Some.close c.in-Some.ensures.value

pub returns-in-None-clause-value : goal.returns-in-None-clause-value
returns-in-None-clause-value c = close-none c.args.text.now c.in-None.ensures.value
