use Rattle.journal_run.proofs.Legal.{checkouts_legal}
use Rattle.journal_run.proofs.laws.checkouts_are_legal.Goals as goal

pub returns : goal.returns
returns c = checkouts_legal c.runs_are_legal.ensures
