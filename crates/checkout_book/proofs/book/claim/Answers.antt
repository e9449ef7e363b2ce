use Rattle.std.proofs.Common.{ℕ, ◌+◌, ◌<◌, sym, ◌∙◌, subst}
use Rattle.std.specs.Prelude.{IfSome}
use Rattle.turn_lock.specs.History.{Follows}
use Rattle.checkout_book.specs.declared.plan.BookPlan.{BookPlan}
use Rattle.checkout_book.specs.Turns.{Claimed}
use Rattle.checkout_book.specs.Sights.{sight, tell}
use Rattle.checkout_book.specs.Entries.{history_of}
use Rattle.checkout_book.proofs.Turning.{claim_follows, claim_plan, went, took}
use Rattle.checkout_book.proofs.book.claim.Goals as goal

pub enter-value-requires-clause-of : goal.enter-value-requires-clause-of
enter-value-requires-clause-of g c = let r = c.requires in r.3.seat.of

pub enter-value-requires-clause-out : goal.enter-value-requires-clause-out
enter-value-requires-clause-out g c = let r = c.requires in r.3.seat.out

pub claim-card-requires-clause-sound : goal.claim-card-requires-clause-sound
claim-card-requires-clause-sound g c = let r = c.requires in (c.enter-value.ensures.fits r.0 r.3.seat.told).1

pub claim-card-requires-clause-actor : goal.claim-card-requires-clause-actor
claim-card-requires-clause-actor g c =
    let r = c.requires in
    let f = c.enter-value.ensures.fits r.0 r.3.seat.told in
    subst (λ (x : BookPlan g.row.B.Denot g.row.L.Denot). c.number-actor.result < x.workers + x.drivers) (sym f.0)
    (subst (λ k. k < r.0.workers + r.0.drivers) (sym c.number-actor.ensures) r.3.actor)

pub leave-requires-clause-inside : goal.leave-requires-clause-inside
leave-requires-clause-inside g c =
    let see = sight g.B.Blob.told g.B.Blob.seen g.L.Leaf.seen in
    let r = c.requires in
    let v = c.enter-value.result.value in
    let n = c.number-actor.ensures in
    let f = c.enter-value.ensures.fits r.0 r.3.seat.told in
    let w = c.a_turn_keeps_a_seat.ensures _ r.0 _ r.1 (history_of (tell see) v) c.args.pass.now
    c.enter-value.new.seat r.3.seat c.enter-value.ensures.inside in (
      history_of (tell see) v,
      w.place,
      subst (λ k. Follows k (history_of (tell see) v) (history_of (tell see) c.claim-card.new.self)) (n ∙ sym w.number)
          (claim_follows see c.number-actor.result v c.claim-card.new.self c.claim-card.result f.1
          c.claim-card.ensures.none c.claim-card.ensures.some),
    )

pub leave-requires-clause-fits : goal.leave-requires-clause-fits
leave-requires-clause-fits g c =
    let see = sight g.B.Blob.told g.B.Blob.seen g.L.Leaf.seen in
    let r = c.requires in
    let v = c.enter-value.result.value in
    let f = c.enter-value.ensures.fits r.0 r.3.seat.told in
    let w = c.a_turn_keeps_a_seat.ensures _ r.0 _ r.1 (history_of (tell see) v) c.args.pass.now
    c.enter-value.new.seat r.3.seat c.enter-value.ensures.inside in (
      r.0,
      w.told,
      (
        claim_plan see c.number-actor.result v c.claim-card.new.self c.claim-card.result
            c.claim-card.ensures.none c.claim-card.ensures.some ∙ f.0,
        c.claim-card.ensures.sound,
        c.claim-card.ensures.room f.2,
      ),
    )

pub returns : goal.returns
returns g c d made core pass =
    let see = sight g.B.Blob.told g.B.Blob.seen g.L.Leaf.seen in
    let v = c.enter-value.result.value in
    let f = c.enter-value.ensures.fits d pass.seat.told in
    let n = c.number-actor.ensures in
    let t = went see c.a_turn_keeps_a_seat.ensures _ d _ made c.args.pass.now c.enter-value.new.seat c.leave.new.seat
    core v c.claim-card.new.self pass c.enter-value.ensures.inside c.leave.ensures f.0 f.1
    c.claim-card.ensures.sound c.enter-value.ensures.mine c.enter-value.ensures.begins in
    took see c.own_entries_tell_what_is_in_hand.ensures c.what_is_in_hand_stays.ensures c.a_claim_takes_its_path.ensures _ d _ made c.args.pass.now
    c.leave.new.seat core v c.claim-card.new.self c.claim-card.result t c.claim-card.ensures.none
    (subst (λ (k : ℕ). IfSome c.claim-card.result (Claimed k v c.claim-card.new.self)) n c.claim-card.ensures.some)
