use Rattle.journal_run.proofs.Legal.{runs_legal}
use Rattle.journal_run.proofs.laws.runs_are_legal.Goals as goal

pub returns : goal.returns
returns c = runs_legal c.complete_is_none_unclosed.ensures.none c.a_history_is_short.ensures c.journal_fits_audit.ensures
