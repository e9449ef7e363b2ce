use Rattle.std.proofs.Common.{ℕ}
use Rattle.turn_lock.specs.Seat.{number_of}
use Rattle.turn_lock.specs.Seats.{IsSeat}
use Rattle.bench_kit.proofs.turns.write.Given as goal

abbrev pub invariant-loop-line : goal.invariant-loop-line
invariant-loop-line g l = (d made : ℕ) → IsSeat l.lock d (number_of l.fn.seat) made l.fn.seat
    → IsSeat l.lock d (number_of l.fn.seat) made l.seat
