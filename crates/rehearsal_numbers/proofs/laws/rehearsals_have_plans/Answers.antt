use Rattle.rehearsal_numbers.proofs.Read.{have_plans}
use Rattle.rehearsal_numbers.proofs.laws.rehearsals_have_plans.Goals as goal

pub returns : goal.returns
returns c = have_plans c.files_have_an_index.ensures c.attributes_are_right.ensures c.one_reading.ensures
