use Rattle.journal_run.proofs.Legal.{journal_is}
use Rattle.journal_run.proofs.rehearsed.rehearsal_journal.Goals as goal

pub returns : goal.returns
returns g c = journal_is c.args.seed c.args.paths c.in_ok-run.run' c.print_journal.result c.in_ok-run.ensures.rehearsed c.print_journal.ensures
