use Rattle.turn_lock.proofs.Turns.{within}
use Rattle.turn_lock.proofs.laws.a_turn_keeps_a_seat.Goals as goal

pub returns : goal.returns
returns g c lock d n made found s t is entered = within lock d n made found s t is entered
