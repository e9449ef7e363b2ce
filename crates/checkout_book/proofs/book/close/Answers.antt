use Rattle.std.proofs.Common.{◌≡◌, ℕ, true, inr, sym, ◌∙◌, subst}
use Rattle.turn_lock.specs.History.{Follows}
use Rattle.checkout_core.specs.Actors.{is_step}
use Rattle.checkout_core.specs.declared.event.Event.TheVariants.{Close}
use Rattle.checkout_book.specs.declared.plan.BookPlan.{BookPlan}
use Rattle.checkout_book.specs.declared.shelf.Slot.TheVariants.{Ended}
use Rattle.checkout_book.specs.Sights.{sight, tell}
use Rattle.checkout_book.specs.Entries.{history_of}
use Rattle.checkout_book.specs.Shelves.{cards_of, IsFrom}
use Rattle.checkout_book.specs.Turns.{Turned}
use Rattle.checkout_book.specs.Passes.{close_entry}
use Rattle.checkout_book.proofs.Histories.{reads_of, close_still}
use Rattle.checkout_book.proofs.Turning.{below_of, out_from, close_grown, went, closed}
use Rattle.checkout_book.proofs.book.close.Goals as goal

pub enter-value-requires-clause-of : goal.enter-value-requires-clause-of
enter-value-requires-clause-of g c = let r = c.requires in r.3.seat.of

pub enter-value-requires-clause-out : goal.enter-value-requires-clause-out
enter-value-requires-clause-out g c = let r = c.requires in r.3.seat.out

pub close-requires-clause-step : goal.close-requires-clause-step
close-requires-clause-step g c =
    let see = sight g.B.Blob.told g.B.Blob.seen g.L.Leaf.seen in
    let r = c.requires in
    let d = r.0 in
    let v = c.enter-value.result.value in
    let f = c.enter-value.ensures.fits d r.3.seat.told in
    let step = close_still c.own_entries_tell_what_is_in_hand.ensures c.what_is_in_hand_stays.ensures
    c.own_entries_decide.ensures d _ c.args.card.path c.args.own _ (history_of (tell see) v) r.2 v.core (below_of
    see d v f.0 f.1) r.3.reads (reads_of see d v f.0 f.1) c.enter-value.ensures.begins (sym r.3.seat.receipts ∙
    c.enter-value.ensures.mine) r.4 in
    subst (λ (k : ℕ). is_step v.core (Close c.args.card.path k c.args.own) ≡ true) (sym c.number-actor.ensures) step

pub close-requires-clause-from : goal.close-requires-clause-from
close-requires-clause-from g c =
    let see = sight g.B.Blob.told g.B.Blob.seen g.L.Leaf.seen in
    let r = c.requires in
    let f = c.enter-value.ensures.fits r.0 r.3.seat.told in
    subst (λ (x : BookPlan g.row.B.Denot g.row.L.Denot). IsFrom see (cards_of x) c.args.card.path c.args.card.blob
    c.args.card.leaf) (sym f.0) (out_from see (cards_of r.0) c.args.card r.5)

pub leave-requires-clause-inside : goal.leave-requires-clause-inside
leave-requires-clause-inside g c =
    let see = sight g.B.Blob.told g.B.Blob.seen g.L.Leaf.seen in
    let r = c.requires in
    let v = c.enter-value.result.value in
    let f = c.enter-value.ensures.fits r.0 r.3.seat.told in
    let w = c.a_turn_keeps_a_seat.ensures _ r.0 _ r.1 (history_of (tell see) v) c.args.pass.now
    c.enter-value.new.seat r.3.seat c.enter-value.ensures.inside in
    let parts = tell see c.args.card.blob c.args.card.leaf in (
      history_of (tell see) v,
      w.place,
      subst (λ k. Follows k (history_of (tell see) v) (history_of (tell see) c.close.new.self))
          (c.number-actor.ensures ∙ sym w.number)
          (inr (
            close_entry c.args.card.path c.number-actor.result c.args.own parts,
            close_grown see
                c.a_close_closes_its_path.ensures c.number-actor.result c.args.card.path c.args.own c.args.card.blob
                c.args.card.leaf v c.close.new.self c.close.ensures.turned f.1,
          )),
    )

pub leave-requires-clause-fits : goal.leave-requires-clause-fits
leave-requires-clause-fits g c =
    let see = sight g.B.Blob.told g.B.Blob.seen g.L.Leaf.seen in
    let r = c.requires in
    let v = c.enter-value.result.value in
    let f = c.enter-value.ensures.fits r.0 r.3.seat.told in
    let w = c.a_turn_keeps_a_seat.ensures _ r.0 _ r.1 (history_of (tell see) v) c.args.pass.now
    c.enter-value.new.seat r.3.seat c.enter-value.ensures.inside in
    (r.0, w.told, (c.close.ensures.turned.plan ∙ f.0, c.close.ensures.sound, c.close.ensures.room f.2))

pub returns : goal.returns
returns g c d made core pass =
    let see = sight g.B.Blob.told g.B.Blob.seen g.L.Leaf.seen in
    let v = c.enter-value.result.value in
    let f = c.enter-value.ensures.fits d pass.seat.told in
    let t = went see c.a_turn_keeps_a_seat.ensures _ d _ made c.args.pass.now c.enter-value.new.seat c.leave.new.seat
    core v c.close.new.self pass c.enter-value.ensures.inside c.leave.ensures f.0 f.1 c.close.ensures.sound
    c.enter-value.ensures.mine c.enter-value.ensures.begins in
    closed see c.own_entries_tell_what_is_in_hand.ensures c.what_is_in_hand_stays.ensures c.a_close_closes_its_path.ensures _ d _ made
    c.args.pass.now c.leave.new.seat core v c.close.new.self c.args.card.path c.args.own c.args.card.blob
    c.args.card.leaf t
    (subst (λ (k : ℕ). Turned (Close c.args.card.path k c.args.own) c.args.card.path (Ended c.args.card.blob
    c.args.card.leaf) v c.close.new.self) c.number-actor.ensures c.close.ensures.turned)

pub close-requires-clause-sound : goal.close-requires-clause-sound
close-requires-clause-sound g c = let r = c.requires in (c.enter-value.ensures.fits r.0 r.3.seat.told).1
