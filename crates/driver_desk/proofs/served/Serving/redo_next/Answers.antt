use Rattle.std.proofs.Common.{◌≡◌, ◌≤◌, ◌∙◌, ℕ, List, [], length, refl, sym, ap, subst, arith}
use Rattle.convert_plan.specs.Card.{card_seen}
use Rattle.delay_table.specs.Table.{Table}
use Rattle.driver_desk.specs.InRounds.{IsInRounds, Goes}
use Rattle.driver_desk.specs.Late.{LateView, cards_of, names_at}
use Rattle.driver_desk.specs.Recorders.{Standing}
use Rattle.driver_desk.specs.Rounds.{paths_of, RedoneCards, RoundsBy}
use Rattle.driver_desk.specs.Works.{label_in}
use Rattle.driver_desk.proofs.Calls.{end_as, never_later}
use Rattle.driver_desk.proofs.Closings.{read_fresh, read_some, read_few, asked_again, read_bare}
use Rattle.driver_desk.proofs.Ended.{ends_closed, ends_standing, is_end}
use Rattle.driver_desk.proofs.Gave.{gave_given, gave_standing}
use Rattle.driver_desk.proofs.LateCards.{step_names, taken_length}
use Rattle.driver_desk.proofs.LeafEnds.{asked_put}
use Rattle.driver_desk.proofs.OnDesk.{grows_both, grows_end, grows_note, noting_ends, with_late}
use Rattle.driver_desk.proofs.OnRounds.{goes_same}
use Rattle.driver_desk.proofs.Places.{own_driver}
use Rattle.driver_desk.proofs.RoundCalls.{asks_again, rounds_as, is_end_back, redo_has, redo_turns}
use Rattle.driver_desk.proofs.RoundSteps.{redone, open_live, next_after, ready_as, taken_ready, taken_apart, taken_fits, taken_redone}
use Rattle.driver_desk.proofs.Serves.{closed_as}
use Rattle.driver_desk.proofs.served.Serving.redo_next.Goals as goal

pub ask_again-reply-requires-clause-fresh : goal.ask_again-reply-requires-clause-fresh
ask_again-reply-requires-clause-fresh g c κs within = read_fresh _ _ _ (taken_ready _ _ _ _ _ c.in-Some.ensures.next.4 c.requires.on.ready).0

pub ask_again-reply-requires-clause-some : goal.ask_again-reply-requires-clause-some
ask_again-reply-requires-clause-some g c κs within = subst (λ (x : List ℕ). 1 ≤ length x) (sym c.as_slice.ensures) (read_some _ _ _ (taken_ready _ _ _ _ _ c.in-Some.ensures.next.4 c.requires.on.ready).0)

pub ask_again-reply-requires-clause-few : goal.ask_again-reply-requires-clause-few
ask_again-reply-requires-clause-few g c κs within = subst (λ (x : List ℕ). length x ≤ 4096) (sym c.as_slice.ensures) (read_few _ _ _ (taken_ready _ _ _ _ _ c.in-Some.ensures.next.4 c.requires.on.ready).0)

pub note_down-requires : goal.note_down-requires
note_down-requires g c =
    let h = c.requires.on in
    let n = c.in-Some.ensures.next in
    let names = step_names c.args.self.now.late c.next_listed.new.self n.0 n.1 _ _ _ n.2 n.3 c.next_listed.ensures.numbers n.4 in
    let a = asks_again c.desk_laws.ensures _ _ _ c.args.self.now.line.session c.ask_again-reply.new.self.session c.in-Some.work.card.path c.ask_again-reply.result.reply (paths_of (cards_of c.args.self.now.late)) (names_at c.next_listed.new.self) c.requires.opened c.ask_again-reply.ensures.may c.ask_again-reply.ensures.goes refl (redo_has _ _ _ _ n.4)
    (redo_turns (g.C.Recorder.seen c.args.recorder.now).standing (g.C.Recorder.seen c.args.recorder.now).given c.args.self.now.line.session _ _ _ _ names h.state) in record {
      noting = h.noting;
      noted = refl;
      own = own_driver _ _ c.in-Some.work.card.path a.own;
      next = a.may;
    }

pub end_told-requires : goal.end_told-requires
end_told-requires g c =
    let h = c.requires.on in
    let n = c.in-Some.ensures.next in
    let names = step_names c.args.self.now.late c.next_listed.new.self n.0 n.1 _ _ _ n.2 n.3 c.next_listed.ensures.numbers n.4 in
    let a = asks_again c.desk_laws.ensures _ _ _ c.args.self.now.line.session c.ask_again-reply.new.self.session c.in-Some.work.card.path c.ask_again-reply.result.reply (paths_of (cards_of c.args.self.now.late)) (names_at c.next_listed.new.self) c.requires.opened c.ask_again-reply.ensures.may c.ask_again-reply.ensures.goes (gave_given _ _ _ c.note_down.ensures.gave) (redo_has _ _ _ _ n.4)
    (redo_turns (g.C.Recorder.seen c.args.recorder.now).standing (g.C.Recorder.seen c.args.recorder.now).given c.args.self.now.line.session _ _ _ _ names h.state) in record {
      asked = asked_again _ _ (card_seen g.B.Blob.told g.B.Blob.seen g.L.Leaf.seen c.in-Some.work.card) _ _ _ (gave_standing _ _ _ c.note_down.ensures.gave) (taken_ready _ _ _ _ _ n.4 h.ready).0 refl (c.ask_again-reply.ensures.says c.in-Some.work.card.path).2.kept;
      required = ap (λ (s : Standing). s.required) (gave_standing _ _ _ c.note_down.ensures.gave) ∙ h.required;
      may = λ k is. end_as _ _ _ c.in-Some.work.card.path k (gave_standing _ _ _ c.note_down.ensures.gave) (a.told k is);
      told = never_later c.ask_again-reply.result.reply c.ask_again-reply.ensures.may;
    }

pub returns-in_default : goal.returns-in_default
returns-in_default g c =
    let e = c.in_default.ensures.next in
    let d = c.args.self.now in
    let r = g.C.Recorder.seen c.args.recorder.now in record {
      on = subst (λ (v : LateView). IsInRounds (with_late d v) r (names_at v)) (sym e.1) c.requires.on;
      goes = subst (λ (v : LateView). Goes (names_at d.late) (names_at v) d r (with_late d v) r) (sym e.1) (goes_same d r (names_at d.late));
      fewer = λ i. absurd (cc (i));
      over = λ i. (subst (λ (v : LateView). v.table.turns ≡ []) (sym e.1) e.0, ap (with_late d) e.1);
    }

pub returns : goal.returns
returns g c =
    let h = c.requires.on in
    let n = c.in-Some.ensures.next in
    let taken = n.4 in
    let gave = c.note_down.ensures.gave in
    let ends = c.end_told.ensures.ends in
    let path = c.in-Some.work.card.path in
    let reply = c.ask_again-reply.result.reply in
    let given = (g.C.Recorder.seen c.args.recorder.now).given in
    let old = paths_of (cards_of c.args.self.now.late) in
    let new = paths_of (cards_of c.next_listed.new.self) in
    let turns = names_at c.next_listed.new.self in
    let read = (taken_ready _ _ _ _ _ taken h.ready).0 in
    let names = step_names c.args.self.now.late c.next_listed.new.self n.0 n.1 _ _ _ n.2 n.3 c.next_listed.ensures.numbers taken in
    let grows = grows_both _ _ _ (grows_note _ _ _ gave) (grows_end _ _ _ _ ends) in
    let gone = subst (λ (x : ℕ). RedoneCards old x new) (sym taken.named) (taken_redone _ _ _ _ taken h.apart) in record {
      on = record {
        noting = noting_ends _ _ _ _ c.note_down.new.talk c.note_down.ensures.noting ends;
        driver = ap (λ (s : Standing). s.driver) grows.standing ∙ h.driver;
        required = ap (λ (s : Standing). s.required) grows.standing ∙ h.required;
        next = next_after c.args.self.now.line.session c.ask_again-reply.new.self.session reply c.requires.opened c.ask_again-reply.ensures.goes;
        ready = ready_as _ _ _ grows.standing (taken_ready _ _ _ _ _ taken h.ready).1;
        apart = taken_apart _ _ _ _ taken h.apart;
        state = rounds_as _ _ _ _ new turns (ends_standing _ _ _ _ ends ∙ gave_standing _ _ _ gave)
            ((asks_again c.desk_laws.ensures _ _ _ c.args.self.now.line.session c.ask_again-reply.new.self.session path reply old turns c.requires.opened c.ask_again-reply.ensures.may c.ask_again-reply.ensures.goes (gave_given _ _ _ gave) (redo_has _ _ _ _ taken)
            (redo_turns (g.C.Recorder.seen c.args.recorder.now).standing given c.args.self.now.line.session _ _ _ _ names h.state)).ends _ new gone
            (is_end_back _ _ _ _ _ (gave_standing _ _ _ gave) (is_end _ _ _ _ ends)));
      };
      goes = record {
        seat = refl;
        grows = grows;
        names = (ap (λ (t : Table). t.names) n.3, c.next_listed.ensures.numbers);
        labels = λ paths fit. (taken_fits paths _ _ _ _ taken fit).1;
        talk = λ paths line0 given0 asked fit names0 z.
            let s = c.ask_again-reply.ensures.says path in
            let label = ap (label_in paths) taken.named ∙ (taken_fits paths _ _ _ _ taken fit).0 in
            redone c.args.self.now.seat.driver paths line0 given0 asked c.args.self.now.line c.ask_again-reply.new.self _ _ _ old new path turns c.args.self.now.line.session c.ask_again-reply.new.self.session reply s.0
            (open_live c.args.self.now.line.session c.requires.opened)
            (subst (λ (x : List ℕ). RoundsBy c.args.self.now.seat.driver paths line0 given0 asked c.args.self.now.line.session c.args.self.now.line given old x) names z)
            c.ask_again-reply.ensures.may (s.1 paths (ap (λ (x : List ℕ × List ℕ). x.0) label ∙ sym c.as_slice.ensures) (ap (λ (x : List ℕ × List ℕ). x.1) label)) c.ask_again-reply.ensures.goes (gave_given _ _ _ gave)
            (closed_as _ _ _ _ (asked_put _ _ path _ _ (g.L.Leaf.seen c.in-Some.work.card.leaf) (g.L.Leaf.seen c.ask_again-reply.new.leaf) s.0 refl refl (read_bare (g.C.Recorder.seen c.args.recorder.now).standing (card_seen g.B.Blob.told g.B.Blob.seen g.L.Leaf.seen c.in-Some.work.card) _ read) s.2) (ends_closed _ _ _ _ ends)) gone;
      };
      fewer = λ e. let k = taken_length _ _ _ _ taken in omega (arith, k);
      over = λ e. absurd (cc (e));
    }
