use Rattle.std.proofs.Common.{◌≡◌, ◌+◌, ℕ, subst, arith}
use Rattle.turn_lock.specs.Seats.{IsSeat}
use Rattle.turn_lock.proofs.Rows.{made_at, row_at}
use Rattle.turn_lock.proofs.laws.each_seat_has_its_place.Goals as goal

pub returns : goal.returns
returns g c lock d made all i s are at =
    let place : 0 + i ≡ i = omega arith in
    let is = subst (λ (n : ℕ). IsSeat lock d n (made_at made i) s) place (row_at lock d 0 made all are i s at) in
    (made_at made i, is.named, is)
