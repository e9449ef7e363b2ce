use Rattle.std.proofs.Common.{◌≡◌, ◌<◌, ℕ, Some, length, get_or, sym, ap, ◌∙◌, subst, arith, rules, of_calls}
use Rattle.std.specs.Prelude.{slice_get}
use Rattle.std.proofs.lemmas.Option.{slice_get-get_or}
use Rattle.turn_lock.specs.Seat.{SeatView, number_of}
use Rattle.turn_lock.specs.Seats.{IsSeat}
use Rattle.bench_kit.proofs.Places.{in_range}
use Rattle.bench_kit.proofs.turns.written.Goals as goal

pub map_vec-requires-after_bounds : goal.map_vec-requires-after_bounds
map_vec-requires-after_bounds g c κs within i x lt is =
    let seats = c.in_ok-lock.all.items in
    let at : slice_get seats i ≡ Some x = slice_get-get_or seats i x lt ∙ ap (λ z. Some z) (sym is) in
    let e = c.each_seat_has_its_place.ensures c.in_ok-lock.lock 7 c.args.seats seats i x c.in_ok-lock.ensures.seats at in
    (7, e.0, subst (λ (n : ℕ). IsSeat c.in_ok-lock.lock 7 n e.0 x) (sym e.1) e.2)

pub end-requires : goal.end-requires
end-requires g c =
    let lock = c.in_ok-lock.lock in
    let seats = c.in_ok-lock.all.items in
    let long : length c.in_ok-all.all.items ≡ length seats = omega (arith, c.in_ok-all.ensures.len, c.in_ok-all.all.ok.0, c.in_ok-lock.all.ok.0) in
    let count : length seats ≡ c.args.seats = c.in_ok-lock.ensures.count in
    let again = c.seats_that_stay_are_all_again.ensures lock 7 c.args.seats seats c.in_ok-all.all.items long c.in_ok-lock.ensures.seats (λ i s t at after m held.
    let lt : i < length seats = in_range seats i s at in
    let e = (c.in_ok-all.ensures.each i s lt).1 in
    let k = e.call.met in
    let u = get_or c.in_ok-all.all.items i s in
    let post : (d made : ℕ) → IsSeat lock d (number_of e.job) made e.job → IsSeat lock d (number_of e.job) made u = search (rules, of_calls) in
    let read : Some (get_or seats i s) ≡ Some s = sym (slice_get-get_or seats i s lt) ∙ at in
    let same : e.job ≡ s = sym (e.job_is s) ∙ cc (read) in
    let got : Some u ≡ Some t = sym (slice_get-get_or c.in_ok-all.all.items i s (omega arith)) ∙ after in
    let is_t : u ≡ t = cc (got) in
    subst (IsSeat lock 7 (number_of s) m) is_t (subst (λ (x : SeatView ℕ ℕ). IsSeat lock 7 (number_of x) m x → IsSeat lock 7 (number_of x) m u) same (post 7 m) held)) in
    record { all = (7, omega (arith, long, count, c.requires), subst (λ (n : ℕ). Rattle.turn_lock.specs.Seats.AreSeats lock 7 0 n c.in_ok-all.all.items) (sym count ∙ sym long) again) }
