use Rattle.std.proofs.Common.{rules, refl, ◌≡◌, ◌∙◌, sym, ap, subst, ℕ, List, ◌++◌, take, take-append-drop, inl, inr}
use Rattle.pkt_line.specs.Reading.{Reading}
use Rattle.driver_host.specs.HostText.{Over}
use Rattle.driver_host.specs.Hosts.{IsHeld}
use Rattle.driver_host.proofs.Taking.{none_fed, fed_on, fed_refused, fed_end, none_grown, grows_on, none_left}
use Rattle.driver_host.proofs.host.feed_all.Goals as goal

pub loop-talk-init : goal.loop-talk-init
loop-talk-init g c = record {
  ready = inl (c.requires.fits, c.requires.part);
  fed = λ bytes cs text h.
      none_fed g.W.Work.told g.W.Work.latest bytes cs text c.args.piece.now c.args.out.now.items c.args.reader.now.unread c.args.talk.now h;
  same = (refl, refl, refl);
  grown = none_grown c.args.out.now.items;
}

pub loop-talk-preserved : goal.loop-talk-preserved
loop-talk-preserved g c =
    let l = c.loop-talk in
    let new = c.serve.new in
    let bit = take c.feed-count.result l.rest.now in
    let fed = ap (λ (r : Reading). r.unread) c.feed-count.ensures.taken in
    record {
      ready = c.in-Ok.ensures.ready;
      fed = λ bytes cs text h.
          fed_on g.W.Work.told g.W.Work.latest c.in-Ok.field-0 bytes cs text c.args.piece.now l.rest.now bit c.split_at.result.1.now _ l.out.items
          new.out.items l.reader.unread new.reader.unread l.talk new.talk (l.invariant.fed bytes cs text h)
          (sym (take-append-drop c.feed-count.result l.rest.now) ∙ ap (λ (z : List ℕ). bit ++ z) (sym c.split_at.ensures.back))
          (λ b d y held. c.in-Ok.ensures.goes b d y (subst (λ (z : List ℕ). IsHeld g.W.Work.told g.W.Work.latest b d y z l.talk) (sym fed) held));
      same = (c.serve.ensures.same.0 ∙ l.invariant.same.0, c.serve.ensures.same.1 ∙ l.invariant.same.1, c.serve.ensures.same.2 ∙ l.invariant.same.2);
      grown = grows_on _ l.out.items new.out.items l.invariant.grown c.serve.ensures.grown;
    }

pub returns-in-Err-clause-feeds : goal.returns-in-Err-clause-feeds
returns-in-Err-clause-feeds g c =
    let l = c.loop-talk in
    let new = c.serve.new in
    let bit = take c.feed-count.result l.rest.now in
    let fed = ap (λ (r : Reading). r.unread) c.feed-count.ensures.taken in
    λ bytes cs text h.
    fed_refused g.W.Work.told g.W.Work.latest c.in-Err.fault bytes cs text c.args.piece.now l.rest.now bit c.split_at.result.1.now _ l.out.items
    new.out.items l.reader.unread new.reader.unread l.talk new.talk c.no_packet.ensures.fault
    (l.invariant.fed bytes cs text h)
    (sym (take-append-drop c.feed-count.result l.rest.now) ∙ ap (λ (z : List ℕ). bit ++ z) (sym c.split_at.ensures.back))
    (λ b d y held. c.in-Err.ensures.goes b d y (subst (λ (z : List ℕ). IsHeld g.W.Work.told g.W.Work.latest b d y z l.talk) (sym fed) held))

pub returns-else-not-is_over-clause-feeds : goal.returns-else-not-is_over-clause-feeds
returns-else-not-is_over-clause-feeds g c =
    let l = c.loop-talk in
    let over : l.talk.stage ≡ Over = Prim.search rules in
    λ bytes cs text h.
    fed_end g.W.Work.told g.W.Work.latest bytes cs text c.args.piece.now l.rest.now _ l.out.items l.reader.unread l.talk
    (l.invariant.fed bytes cs text h) l.invariant.ready (inr over)

pub returns-after-loop-talk-clause-feeds : goal.returns-after-loop-talk-clause-feeds
returns-after-loop-talk-clause-feeds g c =
    let l = c.loop-talk in
    let none = none_left l.rest.now c.is_empty.result c.is_empty.ensures c.loop-talk-test.false in
    λ bytes cs text h.
    fed_end g.W.Work.told g.W.Work.latest bytes cs text c.args.piece.now l.rest.now _ l.out.items l.reader.unread l.talk
    (l.invariant.fed bytes cs text h) l.invariant.ready (inl none)

pub returns-in-Err-clause-grown : goal.returns-in-Err-clause-grown
returns-in-Err-clause-grown g c =
    let l = c.loop-talk in
    grows_on _ l.out.items c.serve.new.out.items l.invariant.grown c.serve.ensures.grown
