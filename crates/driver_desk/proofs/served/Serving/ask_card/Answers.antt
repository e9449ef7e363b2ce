use Rattle.std.proofs.Common.{ap, sym, subst, ◌∙◌, ◌≤◌, ℕ, List, length, Some, refl}
use Rattle.convert_plan.specs.Card.{CardSeen, card_seen}
use Rattle.driver_desk.specs.Works.{label_in, label_of}
use Rattle.driver_desk.proofs.Closings.{asked_of, read_again, planned_bare}
use Rattle.driver_desk.proofs.LeafEnds.{asked_put}
use Rattle.driver_desk.proofs.Gave.{gave_given, gave_standing}
use Rattle.driver_desk.proofs.OnDesk.{on_asks, on_replied, past_path, keeps_reply, moves_reply}
use Rattle.driver_desk.proofs.Places.{own_driver, first_has}
use Rattle.driver_desk.proofs.Serves.{closed_as}
use Rattle.driver_desk.proofs.Ties.{adds_both, adds_note}
use Rattle.driver_desk.proofs.served.Serving.ask_card.Goals as goal

pub ask-asked-requires-clause-fresh : goal.ask-asked-requires-clause-fresh
ask-asked-requires-clause-fresh g c κs within = ((c.requires.hand.planned.2).new_leaf).fresh

pub ask-asked-requires-clause-some : goal.ask-asked-requires-clause-some
ask-asked-requires-clause-some g c κs within = subst (λ (x : List ℕ). 1 ≤ length x) (sym c.as_slice.ensures) (c.requires.hand.planned.2).some

pub ask-asked-requires-clause-few : goal.ask-asked-requires-clause-few
ask-asked-requires-clause-few g c κs within = subst (λ (x : List ℕ). length x ≤ 4096) (sym c.as_slice.ensures) (c.requires.hand.planned.2).within

pub note_down-requires-clause-noting : goal.note_down-requires-clause-noting
note_down-requires-clause-noting g c = c.requires.on.noting

pub note_down-requires-clause-own : goal.note_down-requires-clause-own
note_down-requires-clause-own g c = own_driver _ _ c.args.placed.card.path (((c.requires.on.serving).at).own c.args.placed.card.path (first_has c.args.placed.card.path _))

pub note_down-requires-clause-next : goal.note_down-requires-clause-next
note_down-requires-clause-next g c = on_asks _ _ c.args.placed.card.path _ _ c.ask-asked.result.reply c.desk_laws.ensures c.requires.on c.requires.opened c.ask-asked.ensures.may c.ask-asked.ensures.goes

pub after_reply-requires-clause-replied : goal.after_reply-requires-clause-replied
after_reply-requires-clause-replied g c κs within = on_replied _ _ _ c.args.placed.card.path _ _ _ c.ask-asked.result.reply _ c.desk_laws.ensures c.requires.on c.requires.opened c.ask-asked.ensures.may c.ask-asked.ensures.goes c.ask-asked.ensures.starts c.note_down.ensures.gave c.is_abort-self.ensures c.keep_ready-work.ensures.path c.note_down.ensures.noting

pub after_reply-requires-clause-asked : goal.after_reply-requires-clause-asked
after_reply-requires-clause-asked g c κs within = asked_of _ _ (card_seen g.B.Blob.told g.B.Blob.seen g.L.Leaf.seen c.args.placed.card) _ _ _ c.args.prepared c.args.self.now.seat.required _ (gave_standing _ _ _ c.note_down.ensures.gave) c.requires.on.required c.requires.hand.planned c.requires.prepared refl c.keep_ready-work.ensures.card c.keep_ready-work.ensures.flag (c.ask-asked.ensures.says c.args.placed.card.path).2.kept

pub after_reply-requires-clause-untouched : goal.after_reply-requires-clause-untouched
after_reply-requires-clause-untouched g c κs within delayed = read_again _ _ (card_seen g.B.Blob.told g.B.Blob.seen g.L.Leaf.seen c.args.placed.card) _ _ _ c.args.prepared c.args.self.now.seat.required _ c.ask-asked.result.reply (gave_standing _ _ _ c.note_down.ensures.gave) c.requires.on.required c.requires.hand.planned c.requires.prepared refl c.keep_ready-work.ensures.card c.keep_ready-work.ensures.flag (c.ask-asked.ensures.says c.args.placed.card.path).2.touches delayed

pub after_reply-requires-clause-here : goal.after_reply-requires-clause-here
after_reply-requires-clause-here g c κs within = c.requires.hand.here ∙ ap (λ (q : ℕ). Some q) (sym c.keep_ready-work.ensures.path)

pub after_reply-requires-clause-idle : goal.after_reply-requires-clause-idle
after_reply-requires-clause-idle g c κs within = c.requires.hand.idle

pub returns : goal.returns
returns g c =
    let h = c.requires in
    let a = c.after_reply.ensures.after in record {
      on = past_path c.args.self.now.late _ _ c.args.placed.card.path _ c.keep_ready-work.ensures.path c.after_reply.ensures.on;
      keeps = keeps_reply _ _ _ _ _ _ _ _ _ _ c.note_down.ensures.gave a.keeps;
      read = adds_both _ _ _ (adds_note _ _ _ (gave_given _ _ _ c.note_down.ensures.gave)) a.read;
      moves = λ paths e i.
          let s = c.ask-asked.ensures.says c.args.placed.card.path in
          moves_reply paths _ _ _ _ _ c.args.placed.card.path _ _ _ _ c.ask-asked.result.reply _ s.0 h.on h.opened c.ask-asked.ensures.may c.ask-asked.ensures.goes
          (s.1 paths (ap (λ (z : List ℕ × List ℕ). z.0) e ∙ sym c.as_slice.ensures) (ap (λ (z : List ℕ × List ℕ). z.1) e) (i ∙ sym c.as_slice-2.ensures)) c.note_down.ensures.gave
          (closed_as _ _ _ _ (asked_put _ _ c.args.placed.card.path _ _ (g.L.Leaf.seen c.args.placed.card.leaf) (g.L.Leaf.seen c.ask-asked.new.leaf) s.0 c.keep_ready-work.ensures.path (ap (λ (x : CardSeen). x.leaf.content) c.keep_ready-work.ensures.card) (planned_bare (g.C.Recorder.seen c.args.recorder.now).standing (card_seen g.B.Blob.told g.B.Blob.seen g.L.Leaf.seen c.args.placed.card) h.hand.planned) s.2) a.closed)
          c.is_abort-self.ensures c.keep_ready-work.ensures.path a.late_only a.late (a.labels paths (ap (label_in paths) c.keep_ready-work.ensures.path ∙ (e ∙ sym (ap label_of c.keep_ready-work.ensures.card))));
    }
