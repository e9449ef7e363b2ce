use Rattle.rehearsal_numbers.proofs.Apart.{contents_apart}
use Rattle.rehearsal_numbers.proofs.laws.contents_are_apart.Goals as goal

pub returns : goal.returns
returns c = contents_apart
