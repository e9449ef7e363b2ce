use Rattle.core_laws.proofs.DeskLeft.{none_with}
use Rattle.core_laws.proofs.laws.a_desk_that_is_through_keeps_no_path.Goals as goal

pub returns : goal.returns
returns c starts workers drivers d history x below run all p r there own =
    none_with starts workers drivers d history x below run all p r there own
