use Rattle.git_index.proofs.SpelledWhole.{passed_over}
use Rattle.git_index.proofs.index.stats_are_passed_over.Goals as goal

pub returns : goal.returns
returns c = passed_over
