use Rattle.turn_lock.proofs.Rows.{rows_again}
use Rattle.turn_lock.proofs.laws.seats_that_stay_are_all_again.Goals as goal

pub returns : goal.returns
returns g c lock d made before after long are each = rows_again lock d 0 made before after long are each
