use Rattle.journal_run.proofs.Legal.{rehearsals_legal}
use Rattle.journal_run.proofs.laws.rehearsals_are_legal.Goals as goal

pub returns : goal.returns
returns c = rehearsals_legal c.runs_are_legal.ensures
