use Rattle.std.proofs.Common.{ℕ, ◌≡◌, ◌<◌, ◌+◌, length, List, refl, ap, sym, subst, ◌∙◌}
use Rattle.delay_table.specs.Table.{contains, AreApart}
use Rattle.driver_line.specs.Conversations.{list_notes}
use Rattle.driver_line.specs.Lines.{names_in, weight}
use Rattle.driver_desk.specs.Late.{cards_of}
use Rattle.driver_desk.specs.Recorders.{Standing}
use Rattle.driver_desk.specs.Rounds.{AreReady, FitLabels, LateSeen, paths_of}
use Rattle.driver_desk.specs.Serving.{noted_in}
use Rattle.driver_desk.proofs.OnRounds.{goes_both}
use Rattle.driver_desk.proofs.RoundCalls.{lists, after_list_at, names_same}
use Rattle.driver_desk.proofs.RoundSteps.{ready_as, next_listed, listed, listed_at, open_live, some_at}
use Rattle.driver_desk.proofs.served.Serving.one_round.Goals as goal

pub note_list-requires : goal.note_list-requires
note_list-requires g c =
    let h = c.requires.on in
    let k = lists _ _ c.args.self.now.line.session (paths_of (cards_of c.args.self.now.late)) _ c.list-reply.result c.requires.opened h.state (names_same _ _ _ _ _ c.list-reply.ensures.kept.1 c.list-reply.ensures.names) in record {
      noting = h.noting;
      driver = h.driver;
      next = (_, k.2, k.0, k.1, k.3);
    }

pub redo_all-requires-clause-on : goal.redo_all-requires-clause-on
redo_all-requires-clause-on g c κs within =
    let h = c.requires.on in
    let l = c.list-reply.ensures in
    let grows = c.note_list.ensures.grows in
    let k = lists _ _ c.args.self.now.line.session (paths_of (cards_of c.args.self.now.late)) _ c.list-reply.result c.requires.opened h.state (names_same _ _ _ _ _ l.kept.1 l.names) in record {
      noting = c.note_list.ensures.noting;
      driver = ap (λ (s : Standing). s.driver) grows.standing ∙ h.driver;
      required = ap (λ (s : Standing). s.required) grows.standing ∙ h.required;
      next = next_listed c.args.self.now.line.session c.list-reply.new.line.session c.list-reply.result c.requires.opened l.goes;
      ready = ready_as _ _ _ grows.standing (subst (AreReady _) (sym l.cards) h.ready);
      apart = subst (λ (x : List LateSeen). AreApart (paths_of x)) (sym l.cards) h.apart;
      state = after_list_at _ _ c.args.self.now.line.session c.list-reply.new.line.session c.args.self.now.late c.list-reply.new.self k.2 c.list-reply.result k.0 k.1 c.requires.opened l.goes l.cards l.kept.1 k.4
          (c.note_list.ensures.next _ k.2 k.0 k.1 k.3);
    }

pub returns : goal.returns
returns g c =
    let l = c.list-reply.ensures in
    let n = c.note_list.ensures in record {
      on = c.redo_all.ensures.on;
      goes = goes_both _ _ _ _ _ _ _ _ _ (record {
        seat = refl;
        grows = n.grows;
        names = l.kept;
        labels = λ paths fit. subst (λ (x : List LateSeen). FitLabels paths x) (sym l.cards) fit;
        talk = λ paths line0 given0 asked fit names z.
            listed_at c.args.self.now.seat.driver paths line0 given0 asked c.args.self.now.line.session c.list-reply.new.line.session c.list-reply.new.line _ c.args.self.now.late c.list-reply.new.self c.list-reply.result c.requires.opened l.goes l.cards l.kept.1
            (listed c.args.self.now.seat.driver paths line0 given0 asked c.args.self.now.line c.list-reply.new.line _ _ n.noted.0 (paths_of (cards_of c.args.self.now.late)) _ c.list-reply.result c.args.self.now.line.session c.list-reply.new.line.session
            (open_live c.args.self.now.line.session c.requires.opened) z l.names (λ late same. l.says paths late names (λ q. same q ∙ ap (λ (x : List ℕ). contains q x) (sym l.slate))) l.goes n.noted.1
            (subst (λ (ns : List ℕ). noted_in n.noted.0 ≡ list_notes c.args.self.now.seat.driver (names_in ns c.list-reply.new.self.table.turns c.list-reply.result) c.list-reply.result) l.kept.1 n.noted.2) n.noted.3);
      }) c.redo_all.ensures.goes;
      turns = c.redo_all.ensures.turns;
      fewer = subst (λ (x : List LateSeen). weight c.redo_all.new.self.line.session + length (cards_of c.redo_all.new.self.late) < 1 + length x) l.cards
          (c.redo_all.ensures.fewer (some_at c.args.self.now.line.session c.list-reply.new.line.session (paths_of (cards_of c.args.self.now.late)) c.args.self.now.late c.list-reply.new.self c.list-reply.result c.requires.opened l.goes l.kept.1 l.names));
    }
