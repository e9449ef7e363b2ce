use Rattle.std.proofs.Common.{refl, ap, sym, subst, ◌∙◌, ℕ, Ok, Err, ◌+◌}
use Rattle.convert_plan.specs.Card.{CardSeen, card_seen, IsPrepared}
use Rattle.checkout_core.specs.declared.event.Event.TheVariants.{Close}
use Rattle.checkout_core.specs.declared.path.Heard.TheVariants as heard
use Rattle.checkout_core.specs.declared.verdict.FilterCause.TheVariants as cause
use Rattle.driver_desk.specs.Recorders.{MayDo}
use Rattle.driver_desk.specs.Endings.{MayEnd}
use Rattle.driver_desk.specs.On.{IsInHand}
use Rattle.driver_desk.proofs.CardLists.{alone_own}
use Rattle.driver_desk.proofs.Calls.{aborted_ends, serving_fails}
use Rattle.driver_desk.proofs.Closings.{asked_not, planned_as, kept_bare, read_ok}
use Rattle.driver_desk.proofs.Serves.{unsealed_bare}
use Rattle.driver_desk.specs.Works.{label_in, label_of}
use Rattle.driver_desk.proofs.Ended.{ends_closed, ends_path, ends_read, ends_standing, ends_fixed, unread_closed, unread_one}
use Rattle.driver_desk.proofs.LateCards.{idle_more}
use Rattle.driver_desk.proofs.OnDesk.{on_next, on_ends, on_path, past_path, keeps_line, grows_end, moves_none, moves_failed, moves_path}
use Rattle.driver_desk.proofs.served.Serving.serve_one.Goals as goal

pub refuse-requires : goal.refuse-requires
refuse-requires g c =
    let h = c.requires in
    let same = read_ok _ _ c.in-Ok.prepared c.read_card.ensures.kept c.in-Ok.ensures.counts in
    let path = c.keep_ready-work.ensures.path ∙ ap (λ (x : CardSeen). x.path) c.read_card.ensures.kept in
    let s = (g.C.Recorder.seen c.args.recorder.now).standing in record {
      asked = asked_not s s _ _ _ c.in-Ok.prepared c.args.self.now.seat.required refl h.on.required (planned_as s s _ _ refl same h.hand.planned) (subst (λ (x : CardSeen). IsPrepared x c.in-Ok.prepared) (sym same) c.in-Ok.ensures.read) c.keep_ready-work.ensures.card c.keep_ready-work.ensures.flag;
      required = h.on.required;
      may = (
        cause.Abort,
        subst (λ (q : ℕ). MayEnd s (g.C.Recorder.seen c.args.recorder.now).given q (heard.Refused cause.Abort)) (sym path)
            (aborted_ends c.desk_laws.ensures _ _ _ _ _ c.args.placed.card.path _ c.if-self.true (on_next _ _ c.args.placed.card.path _ h.on).serving),
      );
    }

pub close_unread-requires : goal.close_unread-requires
close_unread-requires g c =
    let h = c.requires in
    let path = ap (λ (x : CardSeen). x.path) c.read_card.ensures.kept in
    let s = (g.C.Recorder.seen c.args.recorder.now).standing in record {
      leaf = ap (λ (x : CardSeen). x.leaf.state) c.read_card.ensures.kept ∙ ((h.hand.planned.2).new_leaf).fresh;
      unread = record { planned = _; is_planned = h.hand.planned; same = c.read_card.ensures.kept; reads = c.in-Err.ensures.read; counts = c.in-Err.ensures.counts };
      next = subst (λ (q : ℕ). MayDo s (g.C.Recorder.seen c.args.recorder.now).given (Close q (s.workers + s.driver) c.in-Err.own)) (sym path)
          (serving_fails c.desk_laws.ensures _ _ _ _ _ c.args.placed.card.path _ c.in-Err.own (alone_own _ c.in-Err.own c.in-Err.ensures.read) h.on.serving);
    }

pub serve_card-requires-clause-on : goal.serve_card-requires-clause-on
serve_card-requires-clause-on g c κs within = on_path _ _ c.args.placed.card.path _ (ap (λ (x : CardSeen). x.path) c.read_card.ensures.kept) (on_next _ _ c.args.placed.card.path _ c.requires.on)

pub serve_card-requires-clause-going : goal.serve_card-requires-clause-going
serve_card-requires-clause-going g c κs within = c.if-self.false

pub serve_card-requires-clause-hand : goal.serve_card-requires-clause-hand
serve_card-requires-clause-hand g c κs within = subst (λ (x : CardSeen). IsInHand c.args.self.now.late (g.C.Recorder.seen c.args.recorder.now).standing c.args.placed.place x) (sym (read_ok _ _ c.in-Ok.prepared c.read_card.ensures.kept c.in-Ok.ensures.counts)) c.requires.hand

pub serve_card-requires-clause-prepared : goal.serve_card-requires-clause-prepared
serve_card-requires-clause-prepared g c κs within = subst (λ (x : CardSeen). IsPrepared x c.in-Ok.prepared) (sym (read_ok _ _ c.in-Ok.prepared c.read_card.ensures.kept c.in-Ok.ensures.counts)) c.in-Ok.ensures.read

pub returns-then-self : goal.returns-then-self
returns-then-self g c =
    let h = c.requires in
    let z = c.refuse.ensures.ends in
    let path = c.keep_ready-work.ensures.path ∙ ap (λ (x : CardSeen). x.path) c.read_card.ensures.kept in record {
      on = on_ends _ _ c.args.placed.card.path _ (on_next _ _ c.args.placed.card.path _ h.on) c.desk_laws.ensures _ _ (ends_path _ _ _ _ _ path z);
      keeps = keeps_line _ _ _ _ _ refl h.hand.idle (grows_end _ _ _ _ z);
      served = (
        record { card = (card_seen g.B.Blob.told g.B.Blob.seen g.L.Leaf.seen c.args.placed.card); content = Ok c.in-Ok.prepared.bytes },
        refl,
        (c.in-Ok.prepared, c.in-Ok.ensures.read, refl),
        (λ paths fit. moves_none paths _ _ _ c.args.placed.card.path (Ok c.in-Ok.prepared.bytes) c.if-self.true (unsealed_bare _ _ _ _ (kept_bare (g.C.Recorder.seen c.args.recorder.now).standing (card_seen g.B.Blob.told g.B.Blob.seen g.L.Leaf.seen c.args.placed.card) (card_seen g.B.Blob.told g.B.Blob.seen g.L.Leaf.seen c.keep_ready-work.result.card) (ap (λ (x : CardSeen). x.leaf) c.keep_ready-work.ensures.card ∙ ap (λ (x : CardSeen). x.leaf) c.read_card.ensures.kept) h.hand.planned) (ends_closed _ _ _ _ z))),
        ends_read _ _ _ _ z,
      );
    }

pub returns-in-Err : goal.returns-in-Err
returns-in-Err g c =
    let h = c.requires in
    let z = c.close_unread.ensures.ends in
    let path = ap (λ (x : CardSeen). x.path) c.read_card.ensures.kept in record {
      on = on_ends _ _ c.args.placed.card.path _ (on_next _ _ c.args.placed.card.path _ h.on) c.desk_laws.ensures _ _ (ends_path _ _ _ _ _ path z);
      keeps = record {
        seat = refl;
        standing = ends_standing _ _ _ _ z;
        fixed = ends_fixed _ _ _ _ z;
        names = (refl, refl);
        turns = λ e. e;
        idle = idle_more c.args.self.now.late c.args.placed.place h.hand.idle;
      };
      served = (
        record { card = (card_seen g.B.Blob.told g.B.Blob.seen g.L.Leaf.seen c.args.placed.card); content = Err c.in-Err.own },
        refl,
        c.in-Err.ensures.read,
        (λ paths fit. moves_failed paths _ _ _ c.args.placed.card.path c.in-Err.own (unread_closed _ _ _ _ z)),
        (let o = unread_one _ _ _ _ z in (o.0, o.1 ∙ path, o.2)),
      );
    }

pub returns-else-self : goal.returns-else-self
returns-else-self g c =
    let a = c.serve_card.ensures in
    let path = ap (λ (x : CardSeen). x.path) c.read_card.ensures.kept in
    let label = ap label_of c.read_card.ensures.kept in record {
      on = past_path c.args.self.now.late _ _ c.args.placed.card.path _ path a.on;
      keeps = a.keeps;
      served = (
        record { card = (card_seen g.B.Blob.told g.B.Blob.seen g.L.Leaf.seen c.args.placed.card); content = Ok c.in-Ok.prepared.bytes },
        refl,
        (c.in-Ok.prepared, c.in-Ok.ensures.read, refl),
        (λ paths fit. moves_path paths _ _ _ _ c.args.placed.card.path _ path (a.moves paths (ap (label_in paths) path ∙ (fit.0 ∙ sym label)) (ap paths.content path ∙ fit.1))),
        a.read,
      );
    }
