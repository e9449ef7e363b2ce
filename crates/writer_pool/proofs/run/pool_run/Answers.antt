use Rattle.std.proofs.Common.{◌≡◌, ℕ, ◌+◌, List, length, sym, ap, ◌∙◌, subst, arith}
use Rattle.std.specs.Global.{Vec}
use Rattle.std.proofs.lemmas.List.{length-map}
use Rattle.convert_plan.specs.declared.card.Card.{Card}
use Rattle.checkout_core.specs.declared.path.Start.{Start}
use Rattle.checkout_core.specs.declared.event.Event.{Event}
use Rattle.checkout_book.specs.Sights.{sight}
use Rattle.checkout_book.specs.Reserving.{ArePool, AreDealt}
use Rattle.driver_desk.specs.declared.desk.Served.{Served}
use Rattle.writer_pool.specs.Jobs.{served_in}
use Rattle.writer_pool.specs.Pools.{AreStartersBack, AreTalks}
use Rattle.writer_pool.specs.Rooms.{HasRoomBack}
use Rattle.writer_pool.proofs.Acting.{passes_length, served_count, starters_back}
use Rattle.writer_pool.proofs.Pooling.{run_is, ends_in, pool_back, pool_noted, pool_own, pool_sealed}
use Rattle.writer_pool.proofs.Tied.{tied_in_history}
use Rattle.writer_pool.proofs.run.pool_run.Goals as goal

pub begin_pool-requires-after_bounds : goal.begin_pool-requires-after_bounds
begin_pool-requires-after_bounds g c κs within = record {
  few_paths = c.requires.few_paths;
  below = c.requires.below;
  some = c.requires.some;
  few_workers = c.requires.few_workers;
  few_desks = c.requires.few_desks;
  pool_is = c.requires.pool;
  seeds_are = c.requires.desks;
  new = c.requires.new;
}

pub came_back-passes-requires : goal.came_back-passes-requires
came_back-passes-requires g c =
    let see = sight g.B.Blob.told g.B.Blob.seen g.L.Leaf.seen in
    let b = c.in_ok-book.ensures in
    let js = c.in_ok-book.jobs.items in
    let t = c.in_ok-ends.ensures b.plan (length js) b.ready in
    let w = c.args.workers in
    let n = passes_length g.S.Starter.seen see _ b.plan 0 (length js) js c.in_ok-ends.ends.items t in
    let count = b.count in
    let passes : w + c.len-drivers.result ≡ length c.in_ok-ends.ends.items =
    omega (arith, n.0, count, c.len-drivers.ensures, c.args.desks.ok.0) in
    let m = served_count g.S.Starter.seen see _ b.plan 0 (length js) w w c.args.desks.items js
    c.in_ok-ends.ends.items b.actors t in
    let desks : c.len-drivers.result ≡ length (served_in c.in_ok-ends.ends.items) =
    omega (arith, m, c.len-drivers.ensures, c.args.desks.ok.0) in
    subst (λ (z : ℕ). HasRoomBack z (length (served_in c.in_ok-ends.ends.items)) c.in_ok-back.back) passes
    (subst (λ (z : ℕ). HasRoomBack (w + c.len-drivers.result) z c.in_ok-back.back) desks c.in_ok-back.ensures)

pub end_all-ended-requires : goal.end_all-ended-requires
end_all-ended-requires g c =
    let see = sight g.B.Blob.told g.B.Blob.seen g.L.Leaf.seen in
    let b = c.in_ok-book.ensures in
    let js = c.in_ok-book.jobs.items in
    let t = c.in_ok-ends.ensures b.plan (length js) b.ready in
    let back = pool_back g.S.Starter.seen see _ b.plan js c.in_ok-ends.ends.items c.came_back-passes.result.passes.items
    c.came_back-passes.ensures.passes t in
    let count = b.count in
    let workers = b.workers_are in
    let drivers = b.drivers_are in
    let some = c.requires.some in
    let long = back.1 in (
      b.plan,
      back.0,
      omega (arith, long, count, some),
      omega (arith, long, count, workers, drivers),
    )

pub leave-history-requires-clause-through : goal.leave-history-requires-clause-through
leave-history-requires-clause-through g c =
    let see = sight g.B.Blob.told g.B.Blob.seen g.L.Leaf.seen in
    let b = c.in_ok-book.ensures in
    let js = c.in_ok-book.jobs.items in
    let t = c.in_ok-ends.ensures b.plan (length js) b.ready in
    let back = pool_back g.S.Starter.seen see _ b.plan js c.in_ok-ends.ends.items c.came_back-passes.result.passes.items
    c.came_back-passes.ensures.passes t in
    let count = b.count in
    let workers = b.workers_are in
    let drivers = b.drivers_are in
    let long = back.1 in (
      b.plan,
      c.end_all-ended.ensures.through b.plan back.0 (omega (arith, long, count, workers, drivers)),
      omega (arith, ap length b.starts_are, c.len-paths.ensures, c.args.starts.ok.0),
    )

pub leave-history-requires-clause-room : goal.leave-history-requires-clause-room
leave-history-requires-clause-room g c = c.in_ok-room.ensures

pub returns : goal.returns
returns g c =
    let S = g.row.S.Denot in
    let see = sight g.B.Blob.told g.B.Blob.seen g.L.Leaf.seen in
    let starter = g.S.Starter.seen in
    let b = c.in_ok-book.ensures in
    let js = c.in_ok-book.jobs.items in
    let ts = c.in_ok-ends.ends.items in
    let ps = c.came_back-passes.result.passes.items in
    let w = c.args.workers in
    let starts = c.args.starts.items in
    let seeds = c.args.desks.items in
    let history = c.leave-history.result.0.items in
    let leaves = c.leave-history.result.1.leaves.items in
    let t = c.in_ok-ends.ensures b.plan (length js) b.ready in
    let back = pool_back starter see _ b.plan js ts ps c.came_back-passes.ensures.passes t in
    let count = b.count in
    let workers = b.workers_are in
    let drivers = b.drivers_are in
    let long = back.1 in
    let some = c.requires.some in
    let through = c.end_all-ended.ensures.through b.plan back.0 (omega (arith, long, count, workers, drivers)) in
    let pool = subst (λ (l : List Start). ArePool l b.plan.pool.items) (sym b.starts_are)
    (subst (λ (l : List (Card g.row.B.Denot g.row.L.Denot)). ArePool starts l) (sym b.pool_is) c.requires.pool) in
    let dealt = subst (λ (l : List Start). AreDealt l 0 b.plan.desks.items) (sym b.starts_are) b.dealt in
    let run = run_is _ starts _ w _ (length seeds) history c.leave-history.result.1.verdicts.items b.starts_are
    b.workers_are b.drivers_are (c.leave-history.ensures.run b.plan through) in
    let noted = pool_noted b.plan ts ps starts history c.end_all-ended.result.shelf.events.items w
    c.came_back-passes.ensures.passes b.starts_are b.workers_are c.leave-history.ensures.history
    (c.end_all-ended.ensures.notes b.plan back.0) in
    let own = pool_own b.plan ts ps starts history c.end_all-ended.result.shelf.events.items w
    c.came_back-passes.ensures.passes b.starts_are b.workers_are c.leave-history.ensures.history (omega (arith, some))
    (c.end_all-ended.ensures.own b.plan back.0) in
    let sealed = pool_sealed see b.plan ts ps starts history leaves c.end_all-ended.result.shelf w
    c.came_back-passes.ensures.passes b.starts_are b.workers_are (c.end_all-ended.ensures.seals b.plan back.0)
    (c.leave-history.ensures.seals b.plan through pool dealt) in
    let left = starters_back starter see _ b.plan 0 (length js) w w seeds js ts starts history leaves b.actors t
    c.requires.desks (λ i u at. record {
      notes_are = noted i u at;
      seals = sealed i u at;
      tied = λ work required tied begun. tied_in_history c.a_claim_takes_its_path.ensures
          c.a_close_closes_its_path.ensures c.a_path_that_is_handed_back_waits.ensures
          c.a_note_keeps_paths_with_their_driver.ensures starts w (length seeds) i history run.core
          run.legal _ (own i u at) work required tied begun;
    }) in
    record {
      run = run;
      ends = ends_in see _ starts history _ _ c.leave-history.result.1.blobs.items leaves b.starts_are b.cards_are
          (c.leave-history.ensures.ends b.plan through pool dealt);
      starters = subst (λ (l : List S). AreStartersBack starter see starts history leaves 0 seeds l)
          (sym c.came_back-passes.ensures.starters) left.0;
      talks = subst (λ (l : List (Vec Event)). AreTalks starts history 0 l) (sym c.came_back-passes.ensures.talks)
          left.1;
      talk_count = ap length c.came_back-passes.ensures.talks
          ∙ (length-map (served_in ts) (λ (s : Served S). s.talk)
          ∙ served_count starter see _ b.plan 0 (length js) w w seeds js ts b.actors t);
    }
