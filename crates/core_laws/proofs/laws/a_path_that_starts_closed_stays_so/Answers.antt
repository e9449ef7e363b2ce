use Rattle.core_laws.proofs.ClosedOnce.{begun_closed}
use Rattle.core_laws.proofs.laws.a_path_that_starts_closed_stays_so.Goals as goal

pub returns : goal.returns
returns c starts workers drivers history x p v below run there =
    begun_closed starts workers drivers history x p v below run there
