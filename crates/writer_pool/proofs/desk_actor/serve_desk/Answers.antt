use Rattle.std.proofs.Common.{[], List, sym, ap, ◌∙◌, subst}
use Rattle.atomic_table.specs.Seated.{TableId}
use Rattle.turn_lock.specs.Seat.{SeatView}
use Rattle.checkout_book.specs.declared.plan.BookPlan.{BookPlan}
use Rattle.checkout_book.specs.declared.plan.HistoryEntry.{HistoryEntry}
use Rattle.checkout_book.specs.Sights.{sight}
use Rattle.driver_desk.specs.Desks.{AreThrough}
use Rattle.driver_desk.specs.Recorders.{Standing}
use Rattle.driver_desk.specs.Serving.{Given, IsServed, noted_in}
use Rattle.driver_desk.specs.Ties.{AreTied}
use Rattle.driver_desk.specs.Works.{asked_in}
use Rattle.writer_pool.specs.OnBook.{IsDeskPass, Place, given_of, standing_of, place_of}
use Rattle.writer_pool.specs.Serving.{recording}
use Rattle.writer_pool.proofs.DeskActing.{same_standing, same_given, none_given}
use Rattle.writer_pool.proofs.desk_actor.serve_desk.Goals as goal

pub returns : goal.returns
returns g c =
    let see = sight g.B.Blob.told g.B.Blob.seen g.L.Leaf.seen in
    let s = c.args.pass in
    let t = c.end.result in
    let required = (c.args.job).required in
    let desk = (c.args.job).desk in
    let first = c.begin-recorder.ensures in
    let e = c.serve-served.ensures in
    let w = e.served in
    let r = c.serve-served.new.recorder in
    let left = g.S.Starter.seen c.serve-served.result.starter in
    let stands = e.standing ∙ ap (λ x. standing_of see x) first in
    let place = e.fixed ∙ ap (λ x. place_of x) first in
    let given = same_given see s t required r stands place c.end.ensures.same in
    record {
      pass = subst (λ (k : TableId). IsDeskPass k t)
          (ap (λ (p : Place g.row.B.Denot g.row.L.Denot). p.lock) place ∙ c.requires.desk.pass.seat.of)
          c.end.ensures.desk;
      place = ap (λ (x : SeatView HistoryEntry (BookPlan g.row.B.Denot g.row.L.Denot)). place_of (recording required x))
          c.end.ensures.same ∙ place;
      through = subst (λ (x : Standing). AreThrough x (given_of see (recording required t)))
          (sym (same_standing see s t required r stands place c.end.ensures.same))
          (subst (λ (l : List Given). AreThrough (standing_of see r) l) given e.through);
      talk = e.talk ∙ ap (λ (l : List Given). noted_in l) given;
      works = w.0;
      cards = w.1;
      read = w.2;
      served = λ paths fit. subst (λ (now : List Given). IsServed desk.driver paths (asked_in w.0) desk.starter left []
          now) given
          (subst (λ (old : List Given). IsServed desk.driver paths (asked_in w.0) desk.starter left old (given_of see r))
          (none_given see s required c.begin-recorder.result first c.requires.fresh) (w.3 paths fit));
      tied = subst (λ (now : List Given). AreTied w.0 now) given w.4;
    }
