use Rattle.git_index.proofs.SpelledWhole.{have_a_text}
use Rattle.git_index.proofs.index.entries_have_a_text.Goals as goal

pub returns : goal.returns
returns c = have_a_text
