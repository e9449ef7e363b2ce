use Rattle.std.proofs.Common.{◌≡◌, ◌∷◌, ◌++◌, [], length, length-append, refl, sym, ap, ◌∙◌, subst, arith, ◌-◌}
use Rattle.std.proofs.lemmas.List.Elements.{All-push, All-same}
use Rattle.turn_lock.specs.Rule.{new_seat}
use Rattle.turn_lock.specs.Seat.{SeatView, seen_of, number}
use Rattle.turn_lock.specs.Seats.{AreSeats}
use Rattle.turn_lock.proofs.Rows.{first_at, seats_push, seats_two}
use Rattle.turn_lock.proofs.lock.TurnLock.make.Goals as goal

pub split-seat-requires-clause-out : goal.split-seat-requires-clause-out
split-seat-requires-clause-out g c = let i = c.loop-number.invariant in (first_at (g.T.Kept.told c.args.value) c.loop-number.number, (i.first, refl), omega (arith, c.loop-number.auto.number))

pub invariant_of-push_reserved : goal.invariant_of-push_reserved
invariant_of-push_reserved g c =
    let v = first_at (g.T.Kept.told c.args.value) c.loop-number.number in
    let s = c.split-seat.ensures.seats v (c.loop-number.invariant.first, refl) in
    ((new_seat v, ap (λ m. m.0) s.1.0, ap (λ m. m.1) s.1.0), ap (λ m. number m.0) (sym s.1.0))

pub loop-number-preserved : goal.loop-number-preserved
loop-number-preserved g c =
    let i = c.loop-number.invariant in
    let told = g.T.Kept.told c.args.value in
    let v = first_at told c.loop-number.number in
    let s = c.split-seat.ensures.seats v (i.first, refl) in
    let S : Type 0 = SeatView g.row.T-Entry.Denot g.row.T-Told.Denot in
    let new : S = record { lock = c.split-seat.result.table_id; known = c.split-seat.result.me.0 } in
    let e : c.push_reserved.new.self.items ≡ c.loop-number.all.items ++ new ∷ [] = c.push_reserved.ensures.items in
    let known = ap (λ m. m.0) s.1.0 in
    let of = c.split-seat.ensures.of.1 ∙ i.of in
    let count : length c.loop-number.all.items ≡ c.loop-number.number - 1 = i.count in
    let P : S → Type 0 = λ x. seen_of x ≡ [] in
    record {
      of = c.split-seat.ensures.of.0 ∙ i.of;
      first = s.0.0;
      len = omega (arith, c.push_reserved.ensures.len, i.len, c.loop-number.auto.number);
      room = c.push_reserved.ensures.capacity ∙ i.room;
      count = omega (arith, ap length e, length-append c.loop-number.all.items (new ∷ []), count, c.loop-number.auto.number);
      rest = subst (AreSeats _ told 1 0) (sym e) (seats_push _ told 1 c.loop-number.all.items new i.rest (seats_two _ told c.loop-number.number c.loop-number.all.items new of known count (omega (arith, c.loop-number.auto.number))));
      unseen = All-same P c.push_reserved.new.self.items (c.loop-number.all.items ++ new ∷ []) e (All-push P c.loop-number.all.items new i.unseen (ap (λ k. seen_of (record { lock = c.split-seat.result.table_id; known = k })) known));
    }

pub invariant_of-insert : goal.invariant_of-insert
invariant_of-insert g c =
    let i = c.loop-number.invariant in
    ((first_at (g.T.Kept.told c.args.value) c.loop-number.number, ap (λ m. m.0) i.first, ap (λ m. m.1) i.first), ap (λ m. number m.0) (sym i.first))
