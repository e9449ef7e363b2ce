use Rattle.rehearsal.proofs.Whole.{have_an_index}
use Rattle.rehearsal.proofs.rehearsed.files_have_an_index.Goals as goal

pub returns : goal.returns
returns c = have_an_index c.entries_have_a_text.ensures
