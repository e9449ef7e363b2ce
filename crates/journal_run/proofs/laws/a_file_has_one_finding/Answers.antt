use Rattle.journal_run.proofs.Legal.{one_finding}
use Rattle.journal_run.proofs.laws.a_file_has_one_finding.Goals as goal

pub returns : goal.returns
returns c = one_finding c.text_has_one_audit.ensures
