use Rattle.std.proofs.Common.{◌≡◌, true, inr, Some, sym, ap, ◌∙◌, subst}
use Rattle.std.specs.Prelude.{is_some}
use Rattle.turn_lock.specs.History.{Follows}
use Rattle.turn_lock.specs.Seat.{number_of}
use Rattle.checkout_core.specs.Actors.{actor_of}
use Rattle.checkout_book.specs.declared.plan.BookPlan.{BookPlan}
use Rattle.checkout_book.specs.Sights.{sight, tell}
use Rattle.checkout_book.specs.Entries.{history_of}
use Rattle.checkout_book.specs.Passes.{note_entry}
use Rattle.checkout_book.proofs.Histories.{reads_of, note_still}
use Rattle.checkout_book.proofs.Turning.{below_of, note_grown, went, noted}
use Rattle.checkout_book.proofs.book.note.Goals as goal

pub enter-value-requires-clause-of : goal.enter-value-requires-clause-of
enter-value-requires-clause-of g c = let r = c.requires in r.3.seat.of

pub enter-value-requires-clause-out : goal.enter-value-requires-clause-out
enter-value-requires-clause-out g c = let r = c.requires in r.3.seat.out

pub note-requires-clause-sound : goal.note-requires-clause-sound
note-requires-clause-sound g c = let r = c.requires in (c.enter-value.ensures.fits r.0 r.3.seat.told).1

pub note-requires-clause-by : goal.note-requires-clause-by
note-requires-clause-by g c =
    let r = c.requires in
    let f = c.enter-value.ensures.fits r.0 r.3.seat.told in
    subst (λ (x : BookPlan g.row.B.Denot g.row.L.Denot). is_some (actor_of x.starts.items x.workers c.args.event) ≡ true)
    (sym f.0) (ap (λ o. is_some o) r.5)

pub note-requires-clause-step : goal.note-requires-clause-step
note-requires-clause-step g c =
    let see = sight g.B.Blob.told g.B.Blob.seen g.L.Leaf.seen in
    let r = c.requires in
    let d = r.0 in
    let v = c.enter-value.result.value in
    let f = c.enter-value.ensures.fits d r.3.seat.told in
    note_still c.own_entries_decide.ensures d _ _ (history_of (tell see) v) r.2 v.core c.args.event (below_of see d v
    f.0 f.1) r.3.reads (reads_of see d v f.0 f.1) (sym r.3.seat.receipts ∙ c.enter-value.ensures.mine) r.4 r.5 r.6

pub leave-requires-clause-inside : goal.leave-requires-clause-inside
leave-requires-clause-inside g c =
    let see = sight g.B.Blob.told g.B.Blob.seen g.L.Leaf.seen in
    let r = c.requires in
    let v = c.enter-value.result.value in
    let f = c.enter-value.ensures.fits r.0 r.3.seat.told in
    let w = c.a_turn_keeps_a_seat.ensures _ r.0 _ r.1 (history_of (tell see) v) c.args.pass.now
    c.enter-value.new.seat r.3.seat c.enter-value.ensures.inside in
    let by = subst (λ (x : BookPlan g.row.B.Denot g.row.L.Denot). actor_of x.starts.items x.workers c.args.event ≡ Some
    (number_of c.args.pass.now)) (sym f.0) r.5 in (
      history_of (tell see) v,
      w.place,
      subst (λ k. Follows k (history_of (tell see) v) (history_of (tell see) c.note.new.self)) (sym w.number)
          (inr (note_entry c.args.event, note_grown see _ c.args.event v c.note.new.self c.note.ensures.noted r.4 by)),
    )

pub leave-requires-clause-fits : goal.leave-requires-clause-fits
leave-requires-clause-fits g c =
    let see = sight g.B.Blob.told g.B.Blob.seen g.L.Leaf.seen in
    let r = c.requires in
    let v = c.enter-value.result.value in
    let f = c.enter-value.ensures.fits r.0 r.3.seat.told in
    let w = c.a_turn_keeps_a_seat.ensures _ r.0 _ r.1 (history_of (tell see) v) c.args.pass.now
    c.enter-value.new.seat r.3.seat c.enter-value.ensures.inside in
    (r.0, w.told, (c.note.ensures.noted.plan ∙ f.0, c.note.ensures.sound, c.note.ensures.room f.2))

pub returns : goal.returns
returns g c d made core pass by =
    let see = sight g.B.Blob.told g.B.Blob.seen g.L.Leaf.seen in
    let v = c.enter-value.result.value in
    let f = c.enter-value.ensures.fits d pass.seat.told in
    let t = went see c.a_turn_keeps_a_seat.ensures _ d _ made c.args.pass.now c.enter-value.new.seat c.leave.new.seat
    core v c.note.new.self pass c.enter-value.ensures.inside c.leave.ensures f.0 f.1 c.note.ensures.sound
    c.enter-value.ensures.mine c.enter-value.ensures.begins in
    noted see c.own_entries_tell_what_is_in_hand.ensures c.a_note_keeps_paths_with_their_driver.ensures _ d _ made
    c.args.pass.now c.leave.new.seat core v c.note.new.self c.args.event t c.requires.4 by c.note.ensures.noted
