use Rattle.std.proofs.Common.{refl, ap, ◌∙◌, subst, arith}
use Rattle.turn_lock.proofs.Shapes.{out_of}
use Rattle.turn_lock.proofs.Gathering.{Gathered, first_raised, first_is, set_first, begun, goes_on, covers, none_left, all_seen, nobody_else, all_fits}
use Rattle.turn_lock.proofs.lock.TurnLock.end.Goals as goal

pub loop-seat-init : goal.loop-seat-init
loop-seat-init g c = record {
  of = c.gatherer-all.ensures.of;
  gathered = λ d all.
      let at = first_is c.args.seats.items c.index_mut.result.now c.requires.all.1 c.index_mut.ensures.value in
      begun c.args.self d c.args.seats.items _ c.index_mut.result.now c.gatherer-all.result.me all at
      (set_first c.args.seats.items c.index_mut.result.now c.gatherer-all.new.first at c.gatherer-all.ensures.first) c.gatherer-all.ensures.result;
}

pub join-requires-clause-of : goal.join-requires-clause-of
join-requires-clause-of g c =
    let lock = c.args.self in
    let r = c.requires.all in
    let j = goes_on lock r.0 c.args.seats.items c.loop-seat.seats.items c.pop.new.self.items c.in-Some.seat c.loop-seat.all.me r.2 (c.in-Some.ensures.items) (c.loop-seat.invariant.gathered r.0 r.2) in
    (c.loop-seat.invariant.of, ap (λ s. s.lock) c.seat.view_is ∙ j.of)

pub join-requires-clause-out : goal.join-requires-clause-out
join-requires-clause-out g c =
    let lock = c.args.self in
    let r = c.requires.all in
    let j = goes_on lock r.0 c.args.seats.items c.loop-seat.seats.items c.pop.new.self.items c.in-Some.seat c.loop-seat.all.me r.2 (c.in-Some.ensures.items) (c.loop-seat.invariant.gathered r.0 r.2) in
    let o = out_of _ _ c.seat.invariant.0 (ap (λ s. s.known) c.seat.view_is) j.out in
    (j.into, o.0, (j.into_is, j.into_out), o.1)

pub loop-seat-preserved : goal.loop-seat-preserved
loop-seat-preserved g c =
    let lock = c.args.self in
    record {
      of = c.join.ensures.of ∙ c.loop-seat.invariant.of;
      gathered = λ d all.
          let j = goes_on lock d c.args.seats.items c.loop-seat.seats.items c.pop.new.self.items c.in-Some.seat c.loop-seat.all.me all (c.in-Some.ensures.items) (c.loop-seat.invariant.gathered d all) in
          let o = out_of _ _ c.seat.invariant.0 (ap (λ s. s.known) c.seat.view_is) j.out in
          j.then o.0 (o.2 ∙ refl) c.join.new.seat.me (c.join.ensures.seat j.into o.0 (j.into_is, j.into_out) o.1).0;
    }

pub close-requires-clause-all : goal.close-requires-clause-all
close-requires-clause-all g c =
    let r = c.requires.all in
    let none = none_left c.loop-seat.seats.items (omega (arith, c.in_default.ensures.cases, c.loop-seat.seats.ok.0)) in
    let e = subst (λ l. Gathered r.0 (first_raised c.args.seats.items) l c.loop-seat.all.me) none (c.loop-seat.invariant.gathered r.0 r.2) in
    (e.view, (e.is, e.out), covers r.0 _ _ e)

pub returns-clause-fits : goal.returns-clause-fits
returns-clause-fits g c d all =
    let none = none_left c.loop-seat.seats.items (omega (arith, c.in_default.ensures.cases, c.loop-seat.seats.ok.0)) in
    let e = subst (λ l. Gathered d (first_raised c.args.seats.items) l c.loop-seat.all.me) none (c.loop-seat.invariant.gathered d all) in
    all_fits g.T.Kept.history g.T.Kept.fits d c.args.seats.items _ c.close.result e (c.close.ensures e.view (e.is, e.out) (covers d _ _ e))

pub returns-clause-seen : goal.returns-clause-seen
returns-clause-seen g c i s at =
    let r = c.requires.all in
    let none = none_left c.loop-seat.seats.items (omega (arith, c.in_default.ensures.cases, c.loop-seat.seats.ok.0)) in
    let e = subst (λ l. Gathered r.0 (first_raised c.args.seats.items) l c.loop-seat.all.me) none (c.loop-seat.invariant.gathered r.0 r.2) in
    (all_seen g.T.Kept.history g.T.Kept.fits r.0 c.args.seats.items _ c.close.result e (c.close.ensures e.view (e.is, e.out) (covers r.0 _ _ e)) i s at).0

pub returns-clause-mine : goal.returns-clause-mine
returns-clause-mine g c i s at =
    let r = c.requires.all in
    let none = none_left c.loop-seat.seats.items (omega (arith, c.in_default.ensures.cases, c.loop-seat.seats.ok.0)) in
    let e = subst (λ l. Gathered r.0 (first_raised c.args.seats.items) l c.loop-seat.all.me) none (c.loop-seat.invariant.gathered r.0 r.2) in
    (all_seen g.T.Kept.history g.T.Kept.fits r.0 c.args.seats.items _ c.close.result e (c.close.ensures e.view (e.is, e.out) (covers r.0 _ _ e)) i s at).1

pub returns-clause-none : goal.returns-clause-none
returns-clause-none g c k le =
    let r = c.requires.all in
    let none = none_left c.loop-seat.seats.items (omega (arith, c.in_default.ensures.cases, c.loop-seat.seats.ok.0)) in
    let e = subst (λ l. Gathered r.0 (first_raised c.args.seats.items) l c.loop-seat.all.me) none (c.loop-seat.invariant.gathered r.0 r.2) in
    nobody_else g.T.Kept.history g.T.Kept.fits r.0 c.args.seats.items _ c.close.result e (c.close.ensures e.view (e.is, e.out) (covers r.0 _ _ e)) k le
