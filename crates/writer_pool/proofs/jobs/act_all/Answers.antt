use Rattle.std.proofs.Common.{◌≡◌, ◌<◌, ℕ, Some, None, length, get_or, sym, ap, ◌∙◌, subst, arith, rules, of_calls}
use Rattle.std.specs.Prelude.{slice_get}
use Rattle.std.proofs.lemmas.Option.{slice_get-get_or}
use Rattle.turn_lock.specs.Seat.{number_of}
use Rattle.checkout_book.specs.declared.plan.BookPlan.{BookPlan}
use Rattle.checkout_book.specs.Sights.{sight}
use Rattle.writer_pool.specs.Dealing.{JobSeen}
use Rattle.writer_pool.specs.Jobs.{EndSeen, IsJob, IsThroughJob}
use Rattle.writer_pool.proofs.Places.{place_is}
use Rattle.writer_pool.proofs.Acting.{job_at, through_all, ok_two}
use Rattle.writer_pool.proofs.jobs.act_all.Goals as goal

pub map_vec-requires-after_bounds : goal.map_vec-requires-after_bounds
map_vec-requires-after_bounds g c κs within i x lt is =
    let see = sight g.B.Blob.told g.B.Blob.seen g.L.Leaf.seen in
    let lock = c.args.book.now in
    let r = c.requires in
    let at : slice_get c.args.jobs.items i ≡ Some x = slice_get-get_or c.args.jobs.items i x lt
    ∙ ap (λ z. Some z) (sym is) in
    let k = job_at see lock r.0 0 r.1 c.args.jobs.items i x r.2 at in (
      (r.0, k.0, subst (λ j. IsJob see lock r.0 j k.0 x) (sym k.1.nothing.1.seat.named) k.1),
      (
        search (rules, c.type_bounds.send-S.owned, c.type_bounds.send-S.leaving),
        search (rules, c.type_bounds.send-B.owned, c.type_bounds.send-B.leaving),
        search (rules, c.type_bounds.send-L.owned, c.type_bounds.send-L.leaving),
        search (rules, c.type_bounds.send-S-Link.owned, c.type_bounds.send-S-Link.leaving),
        search (rules),
        search (rules),
      ),
    )

pub returns : goal.returns
returns g c =
    let see = sight g.B.Blob.told g.B.Blob.seen g.L.Leaf.seen in
    let starter = g.S.Starter.seen in
    let lock = c.args.book.now in
    let B = g.row.B.Denot in
    let L = g.row.L.Denot in
    let J : Type 0 = JobSeen B L in
    ok_two _ _ _ c.map_vec.result (λ v len each d made jobs.
    let long : length v.items ≡ length c.args.jobs.items = omega (arith, len, v.ok.0, c.args.jobs.ok.0) in
    through_all starter see lock d 0 made c.args.jobs.items v.items long jobs (λ i m s at is.
    let lt : i < length c.args.jobs.items = place_is c.args.jobs.items i s at in
    let t0 : EndSeen g.row.S.Denot B L = record { pass = s.pass; served = None } in
    let e = (each i t0 lt).1 in
    let t = get_or v.items i t0 in
    let post : (d : BookPlan B L) (made : ℕ) → IsJob see lock d (number_of (e.job).pass) made e.job
    → IsThroughJob starter see lock d (number_of (e.job).pass) made e.job t = search (rules, of_calls) in
    let read : Some (get_or c.args.jobs.items i s) ≡ Some s =
    sym (slice_get-get_or c.args.jobs.items i s lt) ∙ at in
    let same : e.job ≡ s = sym (e.job_is s) ∙ cc (read) in
    let own = is.nothing.1.seat.named in (
      t,
      slice_get-get_or v.items i _ (omega arith),
      subst (λ j. IsThroughJob starter see lock d j m s t) own
          (subst (λ (x : J). IsJob see lock d (number_of x.pass) m x
          → IsThroughJob starter see lock d (number_of x.pass) m x t) same
          (λ h. post d m h) (subst (λ j. IsJob see lock d j m s) (sym own) is)),
    )))
    c.map_vec.ensures.len c.map_vec.ensures.each
