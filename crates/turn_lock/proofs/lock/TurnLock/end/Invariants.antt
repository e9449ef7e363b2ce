use Rattle.std.proofs.Common.{◌≡◌, length, vec_len}
use Rattle.turn_lock.specs.Seats.{AreSeats}
use Rattle.turn_lock.proofs.Gathering.{Gathered, first_raised}
use Rattle.turn_lock.proofs.lock.TurnLock.end.Given as goal

abbrev pub invariant-loop-seat : goal.invariant-loop-seat
invariant-loop-seat g l = record {
  of : l.all.table_id ≡ l.fn.self;
  gathered : (d : g.row.T-Told.Denot) → AreSeats l.fn.self d 0 (length l.fn.seats.items) l.fn.seats.items
      → Gathered d (first_raised l.fn.seats.items) l.seats.items l.all.me;
}

abbrev pub decreases-loop-seat : goal.decreases-loop-seat
decreases-loop-seat g l = vec_len l.seats
