use Rattle.std.proofs.Common.{Option, Some, None, sym, subst}
use Rattle.turn_lock.specs.Seat.{mine_of, number_of}
use Rattle.checkout_book.specs.declared.plan.BookPlan.{BookPlan}
use Rattle.checkout_book.specs.Sights.{sight}
use Rattle.driver_desk.specs.Desks.{DeskView, IsDealt}
use Rattle.writer_pool.specs.declared.jobs.DeskJob.{DeskJob}
use Rattle.writer_pool.specs.Jobs.{FitsActor, LeavesDesk}
use Rattle.writer_pool.specs.OnBook.{standing_at}
use Rattle.writer_pool.proofs.Acting.{is_back}
use Rattle.writer_pool.proofs.DeskActing.{new_desk, desk_ready, desk_back}
use Rattle.writer_pool.proofs.DeskTalks.{desk_left_so}
use Rattle.writer_pool.proofs.jobs.act.Goals as goal

pub serve_desk-pass-requires-clause-desk : goal.serve_desk-pass-requires-clause-desk
unfolding new_desk
serve_desk-pass-requires-clause-desk g c κs within =
    let see = sight g.B.Blob.told g.B.Blob.seen g.L.Leaf.seen in
    let r = c.requires in
    let j = r.2 in
    let n = number_of c.args.job.pass in
    let fits = subst (λ (o : Option (DeskJob DeskView)). FitsActor see r.0 n o) c.in-Some.is j.actor in
    new_desk c.args.book.now r.0 n r.1 c.args.job.pass fits.0 j.dealt j.nothing j.fresh

pub work-requires-after_bounds : goal.work-requires-after_bounds
unfolding new_desk
work-requires-after_bounds g c κs within =
    let see = sight g.B.Blob.told g.B.Blob.seen g.L.Leaf.seen in
    let r = c.requires in
    let j = r.2 in
    let n = number_of c.args.job.pass in
    let fits = subst (λ (o : Option (DeskJob DeskView)). FitsActor see r.0 n o) c.in-Some.is j.actor in
    let i = new_desk c.args.book.now r.0 n r.1 c.args.job.pass fits.0 j.dealt j.nothing j.fresh in
    let e = c.serve_desk-pass.ensures in (
      e.pass.plan,
      e.pass.made,
      desk_ready see c.args.book.now c.args.job.pass c.serve_desk-pass.result.pass (c.in-Some.job).required i e.pass e.place j.new,
    )

pub work-requires-in-None-after_bounds : goal.work-requires-in-None-after_bounds
work-requires-in-None-after_bounds g c κs within =
    let r = c.requires in
    (r.0, r.1, (r.2.nothing, r.2.new))

pub returns-in-Some : goal.returns-in-Some
unfolding new_desk
returns-in-Some g c d made j =
    let see = sight g.B.Blob.told g.B.Blob.seen g.L.Leaf.seen in
    let lock = c.args.book.now in
    let s0 = c.args.job.pass in
    let s = c.serve_desk-pass.result.pass in
    let required = (c.in-Some.job).required in
    let n = number_of s0 in
    let fits = subst (λ (o : Option (DeskJob DeskView)). FitsActor see d n o) c.in-Some.is j.actor in
    let i = new_desk lock d n made s0 fits.0 j.dealt j.nothing j.fresh in
    let job = c.in-Some.job in
    let dealt = subst (λ (o : Option (BookPlan g.row.B.Denot g.row.L.Denot)). IsDealt (standing_at see o n required)
    job.desk) (sym j.nothing.1.seat.told) fits.2 in
    let e = c.serve_desk-pass.ensures in
    let idled = c.work.ensures e.pass.plan e.pass.made (desk_ready see lock s0 s required i e.pass e.place j.new) in
    record {
      back = desk_back see lock s0 s c.work.result required i e.pass job.desk e.place dealt e.through idled;
      desk_is = subst (λ (o : Option (DeskJob DeskView)). LeavesDesk g.S.Starter.seen o
          (Some c.serve_desk-pass.result.served) (mine_of c.work.result)) (sym c.in-Some.is)
          (desk_left_so see g.S.Starter.seen lock s0 s c.work.result required job.desk
          c.serve_desk-pass.result.served e dealt idled);
    }

pub returns-in-None : goal.returns-in-None
returns-in-None g c d made j =
    let see = sight g.B.Blob.told g.B.Blob.seen g.L.Leaf.seen in
    let n = number_of c.args.job.pass in
    let worker = subst (λ (o : Option (DeskJob DeskView)). FitsActor see d n o) c.in-None.is j.actor in
    record {
      back = is_back see c.args.book.now d n made c.args.job.pass c.work-in-None.result worker j.fresh
          (c.work-in-None.ensures d made (j.nothing, j.new));
      desk_is = subst (λ (o : Option (DeskJob DeskView)). LeavesDesk {S = g.row.S.Denot} g.S.Starter.seen o None
          (mine_of c.work-in-None.result)) (sym c.in-None.is) tt;
    }
