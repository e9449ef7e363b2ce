use Rattle.core_laws.proofs.OwnRun.{own_alone}
use Rattle.core_laws.proofs.laws.own_entries_are_a_history.Goals as goal

pub returns : goal.returns
returns c starts workers drivers a history x below run none =
    own_alone starts workers drivers a history x below run none
