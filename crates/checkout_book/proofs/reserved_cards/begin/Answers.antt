use Rattle.std.proofs.Common.{◌≡◌, ◌+◌, ℕ, length, refl, ap, ◌∙◌, subst, arith}
use Rattle.turn_lock.specs.Seats.{AreSeats}
use Rattle.checkout_core.specs.States.{start}
use Rattle.checkout_book.specs.declared.plan.BookPlan.{BookPlan}
use Rattle.checkout_book.specs.Sights.{sight}
use Rattle.checkout_book.specs.Reserving.{aways, placed, plan_for}
use Rattle.checkout_book.proofs.Lists.{past_none}
use Rattle.checkout_book.proofs.Finishing.{aways_length, placed_length, begins_at, idle_new, fresh_seats, ok_three}
use Rattle.checkout_book.proofs.reserved_cards.begin.Goals as goal

pub start-requires-clause-below : goal.start-requires-clause-below
start-requires-clause-below g c p d required at =
    let n : c.len-drivers.result ≡ length c.args.desks.now.items = omega (
      arith,
      c.len-drivers.ensures,
      c.args.desks.now.ok.0,
      c.requires.few_desks,
    ) in
    let lt = c.requires.below p d required at in
    omega (arith, lt, n)

pub rooms-requires : goal.rooms-requires
rooms-requires g c = omega (arith, c.len-paths.ensures, c.args.starts.ok.0, c.requires.few_paths)

pub lay-requires-clause-few : goal.lay-requires-clause-few
lay-requires-clause-few g c = omega (arith, c.len-paths.ensures, c.args.starts.ok.0, c.requires.few_paths)

pub lay-requires-clause-there : goal.lay-requires-clause-there
lay-requires-clause-there g c k card at =
    let lt = past_none c.args.starts.items card.path _ (c.requires.pool_is.there k card at) in
    omega (arith, lt, c.len-paths.ensures, c.args.starts.ok.0)

pub make-requires-clause-fits : goal.make-requires-clause-fits
make-requires-clause-fits g c =
    let d = plan_for c.args.pool c.args.desks.now c.args.starts c.args.workers in
    let p = c.of-told.ensures in
    let s = c.of-begun.ensures in
    let k = c.of-kept.ensures in
    let dr : c.len-drivers.result ≡ length c.args.desks.now.items = omega (
      arith,
      c.len-drivers.ensures,
      c.args.desks.now.ok.0,
      c.requires.few_desks,
    ) in
    let n : c.len-paths.result ≡ length c.args.starts.items = omega (arith, c.len-paths.ensures, c.args.starts.ok.0) in
    let laid : c.in_ok-laid.laid.0.items ≡ placed (aways (length c.args.starts.items)) c.args.pool.items =
    c.in_ok-laid.ensures.slots ∙ ap (λ m. placed (aways m) c.args.pool.items) n in
    let len : length c.in_ok-laid.laid.0.items ≡ length c.args.starts.items = ap length laid ∙ (placed_length (aways
    (length c.args.starts.items)) c.args.pool.items ∙ aways_length g.row.B.Denot g.row.L.Denot (length
    c.args.starts.items)) in (
      refl,
      begins_at (sight g.B.Blob.told g.B.Blob.seen g.L.Leaf.seen) d _ _ _ _ _ _ (λ i. record {
        pool = p i;
        desks = k
            i;
        starts = s i;
        workers = c.args.workers;
        drivers = dr i;
      }) c.requires.below c.requires.pool_is c.requires.new
          (omega (arith, c.in_ok-room.ensures.events, n)) (c.in_ok-core.ensures ∙ ap (λ m. start
          c.args.starts.items c.args.workers m) dr) c.in_ok-room.ensures.no_event laid
          c.in_ok-laid.ensures.waiting,
      (c.in_ok-room.ensures.no_part, omega (arith, c.in_ok-room.ensures.parts, len, n)),
    )

pub returns : goal.returns
returns g c =
    let d = plan_for c.args.pool c.args.desks.now c.args.starts c.args.workers in
    let p = c.of-told.ensures in
    let s = c.of-begun.ensures in
    let k = c.of-kept.ensures in
    let n = c.args.workers + length c.args.desks.now.items in
    let dr : c.len-drivers.result ≡ length c.args.desks.now.items = omega (
      arith,
      c.len-drivers.ensures,
      c.args.desks.now.ok.0,
      c.requires.few_desks,
    ) in
    let is : record {
      pool = c.of-told.result.value;
      desks = c.of-kept.result.value;
      starts = c.of-begun.result.value;
      workers = c.args.workers;
      drivers = c.len-drivers.result;
    } ≡ d = (λ i. record { pool = p i; desks = k i; starts = s i; workers = c.args.workers; drivers = dr i }) in
    ok_three _ _ _ _ c.make.result (λ r count seats unseen. record {
      count = omega (arith, count, dr);
      idle = idle_new r.0 d 0 n r.1.items
          (subst (λ (m : ℕ). AreSeats r.0 d 0 (c.args.workers + m) r.1.items) dr
          (subst (λ (x : BookPlan g.row.B.Denot g.row.L.Denot). AreSeats r.0 x 0 (c.args.workers + c.len-drivers.result)
          r.1.items) is seats)) unseen (omega (arith, count, dr));
      fresh = fresh_seats r.0 _ 0 _ r.1.items seats unseen;
    }) c.make.ensures.count c.make.ensures.seats c.make.ensures.unseen
