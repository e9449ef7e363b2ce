use Rattle.std.proofs.Common.{ap, sym, subst, ◌∙◌, List, refl, inl, inr}
use Rattle.delay_table.specs.Table.{Table}
use Rattle.convert_plan.specs.Card.{card_seen}
use Rattle.driver_desk.specs.Rounds.{LateSeen, FitLabels, late_seen, paths_of}
use Rattle.driver_desk.specs.Late.{cards_of}
use Rattle.driver_desk.specs.Progress.{newest}
use Rattle.driver_desk.proofs.Serves.{closed_all, closed_bare, no_closing}
use Rattle.driver_desk.proofs.LateCards.{idle_next, idle_more}
use Rattle.driver_desk.proofs.Calls.{here_told, over_told, still_late, over_none}
use Rattle.driver_desk.proofs.Ended.{ends_closed, ends_fixed, ends_read, ends_standing}
use Rattle.driver_desk.proofs.OnDesk.{on_waits, on_told, on_over, over_lost, newest_waits}
use Rattle.driver_desk.proofs.RoundSteps.{grows_fits}
use Rattle.driver_desk.proofs.Ties.{adds_both, adds_none}
use Rattle.driver_desk.proofs.served.Serving.after_reply.Goals as goal

pub end_told-requires : goal.end_told-requires
end_told-requires g c =
    let h = c.requires.replied in
    record { asked = c.requires.asked; required = h.required; may = h.told; told = here_told c.args.asked.reply c.in-Content.is }

pub end_told-requires-in-Abort : goal.end_told-requires-in-Abort
end_told-requires-in-Abort g c =
    let h = c.requires.replied in
    record { asked = c.requires.asked; required = h.required; may = h.told; told = over_told c.args.asked.reply c.in-Abort.is }

pub close_late-requires-clause-next : goal.close_late-requires-clause-next
close_late-requires-clause-next g c =
    let h = c.requires.replied in
    (_, h.first, _, over_lost _ _ _ _ _ h _ _ c.desk_laws.ensures c.in-Abort.is c.end_told-in-Abort.ensures.ends)

pub returns-in-Delayed : goal.returns-in-Delayed
returns-in-Delayed g c =
    let h = c.requires.replied in
    let late = late_seen (card_seen g.B.Blob.told g.B.Blob.seen g.L.Leaf.seen c.args.work.card) c.args.work.unencoded in
    let read = c.requires.untouched c.in-Delayed.is in record {
      on = on_waits _ _ _ _ _ h c.keep.new.self late c.keep.ensures.cards read refl c.in-Delayed.is;
      after = record {
        late_only = refl;
        keeps = record {
          seat = refl;
          standing = refl;
          fixed = refl;
          names = (ap (λ (t : Table). t.names) c.keep.ensures.table, c.keep.ensures.numbers);
          turns = λ e. ap (λ (t : Table). t.turns) c.keep.ensures.table ∙ e;
          idle = idle_next c.args.self.now.late c.keep.new.self c.args.place c.requires.idle c.keep.ensures.table c.keep.ensures.numbers;
        };
        late = newest_waits _ _ _ _ _ h c.keep.new.self late c.keep.ensures.cards refl c.in-Delayed.is;
        read = adds_none _ _ refl;
        closed = no_closing _ _ _ refl;
        labels = λ paths fit k. grows_fits (g.C.Recorder.seen c.args.recorder.now).standing paths _ _ _ _ (inr (inl (late, c.keep.ensures.cards, read, refl, refl))) fit k;
      };
    }

pub returns-in-Content : goal.returns-in-Content
returns-in-Content g c =
    let h = c.requires.replied in
    let z = c.end_told.ensures.ends in record {
      on = on_told _ _ _ _ _ h _ _ c.desk_laws.ensures c.in-Content.is z;
      after = record {
        late_only = refl;
        keeps = record {
          seat = refl;
          standing = ends_standing _ _ _ _ z;
          fixed = ends_fixed _ _ _ _ z;
          names = (refl, refl);
          turns = λ e. e;
          idle = idle_more c.args.self.now.late c.args.place c.requires.idle;
        };
        late = still_late c.args.work.card.path c.args.asked.reply _ c.in-Content.is;
        read = ends_read _ _ _ _ z;
        closed = ends_closed _ _ _ _ z;
        labels = λ paths fit k. k;
      };
    }

pub returns-in-Abort : goal.returns-in-Abort
returns-in-Abort g c =
    let h = c.requires.replied in
    let z = c.end_told-in-Abort.ensures.ends in
    let k = c.close_late.ensures in record {
      on = on_over _ _ _ _ _ h _ _ _ _ c.desk_laws.ensures c.in-Abort.is z k.emptied.none k.grows k.closed k.next;
      after = record {
        late_only = refl;
        keeps = record {
          seat = refl;
          standing = k.grows.standing ∙ ends_standing _ _ _ _ z;
          fixed = k.grows.fixed ∙ ends_fixed _ _ _ _ z;
          names = k.emptied.names;
          turns = k.emptied.turns;
          idle = k.emptied.idle _ (idle_more c.args.self.now.late c.args.place c.requires.idle);
        };
        late = ap (λ (x : List LateSeen). newest (paths_of x)) k.emptied.none ∙ sym (over_none c.args.work.card.path c.args.asked.reply (newest (paths_of (cards_of c.args.self.now.late))) c.in-Abort.is);
        read = adds_both _ _ _ (ends_read _ _ _ _ z) k.grows.read;
        closed = closed_all _ _ _ _ (ends_closed _ _ _ _ z) (closed_bare _ _ _ _ _ _ k.closed);
        labels = λ paths fit i. subst (λ (x : List LateSeen). FitLabels paths x) (sym k.emptied.none) tt;
      };
    }
