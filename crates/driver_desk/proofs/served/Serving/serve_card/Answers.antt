use Rattle.std.proofs.Common.{sym, subst, ap, ◌∙◌, ℕ}
use Rattle.convert_plan.specs.Card.{CardSeen, card_seen}
use Rattle.checkout_core.specs.declared.path.Heard.TheVariants as heard
use Rattle.checkout_core.specs.declared.verdict.FilterCause.TheVariants as cause
use Rattle.checkout_core.specs.Conditions.{heard_opening}
use Rattle.driver_desk.specs.Endings.{MayEnd}
use Rattle.driver_desk.specs.Recorders.{Standing}
use Rattle.driver_desk.proofs.Calls.{unsmudged_ends}
use Rattle.driver_desk.proofs.Closings.{asked_not, kept_bare}
use Rattle.driver_desk.proofs.Serves.{unsealed_bare}
use Rattle.driver_desk.proofs.Ended.{ends_closed, ends_path, ends_read}
use Rattle.driver_desk.proofs.OnDesk.{on_ends, on_fails, on_going, keeps_line, keeps_then, moves_fails, moves_past, moves_asked, bare_stays, grows_both, grows_end, line_hand, line_on, line_going, line_rest, line_required, line_seat}
use Rattle.driver_desk.proofs.Ties.{adds_both}
use Rattle.driver_desk.proofs.served.Serving.serve_card.Goals as goal

pub not_opened-requires : goal.not_opened-requires
not_opened-requires g c =
    let o = c.in-Some.ensures.opens in
    let required = line_required c.args.self.now c.open_for.new.self _ _ _ c.requires.on o.line in record {
      asked = asked_not _ _ _ _ _ c.args.prepared c.open_for.new.self.seat.required o.grows.standing required c.requires.hand.planned c.requires.prepared c.keep_ready-work.ensures.card c.keep_ready-work.ensures.flag;
      bare = kept_bare (g.C.Recorder.seen c.args.recorder.now).standing (card_seen g.B.Blob.told g.B.Blob.seen g.L.Leaf.seen c.args.placed.card) (card_seen g.B.Blob.told g.B.Blob.seen g.L.Leaf.seen c.keep_ready-work.result.card) (ap (λ (x : CardSeen). x.leaf) c.keep_ready-work.ensures.card) c.requires.hand.planned;
      required = ap (λ (s : Standing). s.required) o.grows.standing ∙ required;
      may = subst (λ (q : ℕ). MayEnd (g.C.Recorder.seen c.open_for.new.recorder).standing (g.C.Recorder.seen c.open_for.new.recorder).given q (heard_opening c.in-Some.cause)) (sym c.keep_ready-work.ensures.path) o.unopened.may;
    }

pub refuse-requires : goal.refuse-requires
refuse-requires g c =
    let o = c.in_default.ensures.opens in
    let required = line_required c.args.self.now c.open_for.new.self _ _ _ c.requires.on o.line in record {
      asked = asked_not _ _ _ _ _ c.args.prepared c.open_for.new.self.seat.required o.grows.standing required c.requires.hand.planned c.requires.prepared c.keep_ready-work-then-not-has_smudge.ensures.card c.keep_ready-work-then-not-has_smudge.ensures.flag;
      required = ap (λ (s : Standing). s.required) o.grows.standing ∙ required;
      may = (
        cause.NoSmudge,
        subst (λ (q : ℕ). MayEnd (g.C.Recorder.seen c.open_for.new.recorder).standing (g.C.Recorder.seen c.open_for.new.recorder).given q (heard.Refused cause.NoSmudge)) (sym c.keep_ready-work-then-not-has_smudge.ensures.path)
            (unsmudged_ends c.desk_laws.ensures _ _ _ _ c.args.placed.card.path _ o.there (c.has_smudge.ensures.no c.if-not-has_smudge.true) (on_going _ _ _ _ o.on (line_going c.args.self.now c.open_for.new.self o.line c.requires.going))),
      );
    }

pub ask_card-requires-clause-on : goal.ask_card-requires-clause-on
ask_card-requires-clause-on g c κs within = let o = c.in_default.ensures.opens in line_on c.args.self.now c.open_for.new.self _ _ o.line o.on

pub ask_card-requires-clause-hand : goal.ask_card-requires-clause-hand
ask_card-requires-clause-hand g c κs within = let o = c.in_default.ensures.opens in line_hand c.args.self.now c.open_for.new.self (g.C.Recorder.seen c.args.recorder.now) (g.C.Recorder.seen c.open_for.new.recorder) _ _ o.line o.grows.standing c.requires.hand

pub returns-in-Some : goal.returns-in-Some
returns-in-Some g c =
    let o = c.in-Some.ensures.opens in
    let z = c.not_opened.ensures.ends in record {
      on = on_fails _ _ _ _ _ c.in-Some.cause c.args.placed.card.path _ _ c.desk_laws.ensures c.requires.on c.requires.going o (ends_path _ _ _ _ _ c.keep_ready-work.ensures.path z);
      keeps = keeps_line _ _ _ _ _ o.line c.requires.hand.idle (grows_both _ _ _ o.grows (grows_end _ _ _ _ z));
      read = adds_both _ _ _ o.grows.read (ends_read _ _ _ _ z);
      moves = λ paths e i. moves_fails paths _ _ _ _ _ c.args.placed.card.path (o.moves paths) (ends_closed _ _ _ _ z);
    }

pub returns-then-not-has_smudge : goal.returns-then-not-has_smudge
returns-then-not-has_smudge g c =
    let o = c.in_default.ensures.opens in
    let z = c.refuse.ensures.ends in record {
      on = on_ends _ _ c.args.placed.card.path _ o.on c.desk_laws.ensures _ _ (ends_path _ _ _ _ _ c.keep_ready-work-then-not-has_smudge.ensures.path z);
      keeps = keeps_line _ _ _ _ _ o.line c.requires.hand.idle (grows_both _ _ _ o.grows (grows_end _ _ _ _ z));
      read = adds_both _ _ _ o.grows.read (ends_read _ _ _ _ z);
      moves = λ paths e i. moves_past paths _ _ _ _ _ c.args.placed.card.path (o.moves paths) (bare_stays c.open_for.new.self c.args.placed.card.path (line_going c.args.self.now c.open_for.new.self o.line c.requires.going) o.there (c.has_smudge.ensures.no c.if-not-has_smudge.true))
          (unsealed_bare _ _ _ _ (kept_bare (g.C.Recorder.seen c.args.recorder.now).standing (card_seen g.B.Blob.told g.B.Blob.seen g.L.Leaf.seen c.args.placed.card) (card_seen g.B.Blob.told g.B.Blob.seen g.L.Leaf.seen c.keep_ready-work-then-not-has_smudge.result.card) (ap (λ (x : CardSeen). x.leaf) c.keep_ready-work-then-not-has_smudge.ensures.card) c.requires.hand.planned) (ends_closed _ _ _ _ z));
    }

pub returns : goal.returns
returns g c =
    let o = c.in_default.ensures.opens in
    let a = c.ask_card.ensures in record {
      on = line_rest c.args.self.now c.open_for.new.self _ _ c.args.placed.card.path o.line a.on;
      keeps = keeps_then _ _ _ _ _ _ _ o.line o.grows a.keeps;
      read = adds_both _ _ _ o.grows.read a.read;
      moves = λ paths e i. moves_asked paths _ _ _ _ _ c.args.placed.card.path _ (line_seat c.args.self.now c.open_for.new.self o.line) (o.moves paths) (a.moves paths e i);
    }
