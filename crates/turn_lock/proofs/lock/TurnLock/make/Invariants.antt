use Rattle.std.proofs.Common.{◌≡◌, ◌-◌, [], length, vec_len, vec_capacity, All}
use Rattle.turn_lock.specs.declared.view.Knows.TheVariants.{Seated}
use Rattle.turn_lock.proofs.Rows.{first_at}
use Rattle.turn_lock.specs.Seat.{seen_of}
use Rattle.turn_lock.specs.Seats.{AreSeats}
use Rattle.turn_lock.proofs.lock.TurnLock.make.Given as goal

abbrev pub invariant-loop-number : goal.invariant-loop-number
invariant-loop-number g l = record {
  of : l.first.table_id ≡ l.lock;
  first : l.first.me ≡ (Seated (first_at (g.T.Kept.told l.fn.value) l.number), []);
  count : length l.all.items ≡ l.number - 1;
  len : vec_len l.all ≡ l.number - 1;
  room : vec_capacity l.all ≡ l.seats;
  rest : AreSeats l.lock (g.T.Kept.told l.fn.value) 1 0 l.all.items;
  unseen : All (λ s. seen_of s ≡ []) l.all.items;
}
