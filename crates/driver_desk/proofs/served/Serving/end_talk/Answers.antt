use Rattle.std.proofs.Common.{refl, ap, inl, inr, List, sym, ℕ, Some, false, subst}
use Rattle.std.proofs.lemmas.List.{append-nil}
use Rattle.delay_table.specs.Table.{AreApart}
use Rattle.driver_desk.specs.Late.{cards_of}
use Rattle.driver_desk.specs.On.{late_paths}
use Rattle.driver_desk.specs.Progress.{newest}
use Rattle.driver_desk.specs.Rounds.{LateSeen, paths_of}
use Rattle.driver_desk.proofs.Calls.{aborted_as}
use Rattle.driver_desk.proofs.Gave.{gave_given, gave_standing}
use Rattle.driver_desk.proofs.OnDesk.{grows_note, grows_same}
use Rattle.driver_desk.proofs.OnRounds.{next_open, there_going, over_closed, done_closed}
use Rattle.driver_desk.proofs.RoundCalls.{rounds_start, shuts, unsmudged_none}
use Rattle.driver_desk.proofs.RoundSteps.{over_shut, rounds_begin, serves_as, some_there, some_cards}
use Rattle.driver_desk.proofs.Serves.{is_none, open_ready}
use Rattle.driver_desk.proofs.served.Serving.end_talk.Goals as goal

pub note_down-requires : goal.note_down-requires
note_down-requires g c =
    let h = c.requires.on in
    let there = some_there _ (rw c.if-not-is_open.false at c.is_open.ensures) in
    let state = aborted_as _ _ _ _ false _ _ _ (there_going _ _ there h.done) h.serving in
    let bare = c.has_smudge.ensures.no c.if-not-has_smudge.true in record {
      noting = h.noting;
      noted = refl;
      own = ap (λ (d : ℕ). Some d) (sym h.driver);
      next = (shuts c.desk_laws.ensures _ _ _ _ _ c.args.self.now.line.session _ refl h.driver refl there (inr bare) (unsmudged_none _ _ c.args.self.now.line.session _ there bare state) state).0;
    }

pub note_down-requires-then-is_empty : goal.note_down-requires-then-is_empty
note_down-requires-then-is_empty g c =
    let h = c.requires.on in
    let there = some_there _ (rw c.if-not-is_open.false at c.is_open.ensures) in
    let state = aborted_as _ _ _ _ false _ _ _ (there_going _ _ there h.done) h.serving in
    let none = c.is_empty.ensures.yes c.if-is_empty.true in record {
      noting = h.noting;
      noted = refl;
      own = ap (λ (d : ℕ). Some d) (sym h.driver);
      next = (shuts c.desk_laws.ensures _ _ _ _ _ c.args.self.now.line.session _ refl h.driver refl there (inl (ap (λ (x : List LateSeen). newest (paths_of x)) none)) (ap paths_of none) state).0;
    }

pub rounds-requires-clause-on : goal.rounds-requires-clause-on
rounds-requires-clause-on g c κs within =
    let h = c.requires.on in
    let there = some_there _ (rw c.if-not-is_open.false at c.is_open.ensures) in
    let state = aborted_as _ _ _ _ false _ _ _ (there_going _ _ there h.done) h.serving in
    let open_ = open_ready _ _ there h.askable (c.has_smudge.ensures.yes c.if-not-has_smudge.false) in record {
      noting = h.noting;
      driver = h.driver;
      required = h.required;
      next = next_open _ open_;
      ready = h.ready;
      apart = subst AreApart (append-nil (late_paths c.args.self.now)) h.apart;
      state = rounds_start _ _ c.args.self.now.line.session _ open_ (some_cards (cards_of c.args.self.now.late) (c.is_empty.ensures.no c.if-is_empty.false)) state;
    }

pub rounds-requires-clause-opened : goal.rounds-requires-clause-opened
rounds-requires-clause-opened g c κs within =
    open_ready _ _ (some_there _ (rw c.if-not-is_open.false at c.is_open.ensures)) c.requires.on.askable (c.has_smudge.ensures.yes c.if-not-has_smudge.false)

pub rounds-requires-clause-none : goal.rounds-requires-clause-none
rounds-requires-clause-none g c κs within = c.requires.none

pub returns-then-not-is_open : goal.returns-then-not-is_open
returns-then-not-is_open g c =
    let h = c.requires.on in
    let none = is_none _ (rw c.if-not-is_open.true at c.is_open.ensures) in record {
      done = done_closed _ _ _ _ _ none h.serving;
      noting = h.noting;
      grows = grows_same _;
      over = λ paths line0 given0 asked fit names s. over_closed c.args.self.now.seat.driver paths line0 given0 asked c.args.self.now.line _ _ _ none s;
      none = none;
    }

pub returns-then-not-has_smudge : goal.returns-then-not-has_smudge
returns-then-not-has_smudge g c =
    let h = c.requires.on in
    let there = some_there _ (rw c.if-not-is_open.false at c.is_open.ensures) in
    let going = there_going _ _ there h.done in
    let state = aborted_as _ _ _ _ false _ _ _ going h.serving in
    let bare = c.has_smudge.ensures.no c.if-not-has_smudge.true in
    let gave = c.note_down.ensures.gave in record {
      done = (shuts c.desk_laws.ensures _ _ _ _ _ c.args.self.now.line.session _ (gave_standing _ _ _ gave) h.driver (gave_given _ _ _ gave) there (inr bare) (unsmudged_none _ _ c.args.self.now.line.session _ there bare state) state).1;
      noting = c.note_down.ensures.noting;
      grows = grows_note _ _ _ gave;
      over = λ paths line0 given0 asked fit names s.
          over_shut c.args.self.now.seat.driver paths line0 given0 asked c.args.self.now.line c.shut.new.self _ _ _ there (inr bare) (c.shut.ensures.says paths) (gave_given _ _ _ gave)
          (serves_as c.args.self.now.seat.driver paths line0 given0 asked _ _ _ false _ going s);
      none = c.shut.ensures.none;
    }

pub returns-then-is_empty : goal.returns-then-is_empty
returns-then-is_empty g c =
    let h = c.requires.on in
    let there = some_there _ (rw c.if-not-is_open.false at c.is_open.ensures) in
    let going = there_going _ _ there h.done in
    let state = aborted_as _ _ _ _ false _ _ _ going h.serving in
    let none = c.is_empty.ensures.yes c.if-is_empty.true in
    let late = ap (λ (x : List LateSeen). newest (paths_of x)) none in
    let gave = c.note_down-then-is_empty.ensures.gave in record {
      done = (shuts c.desk_laws.ensures _ _ _ _ _ c.args.self.now.line.session _ (gave_standing _ _ _ gave) h.driver (gave_given _ _ _ gave) there (inl late) (ap paths_of none) state).1;
      noting = c.note_down-then-is_empty.ensures.noting;
      grows = grows_note _ _ _ gave;
      over = λ paths line0 given0 asked fit names s.
          over_shut c.args.self.now.seat.driver paths line0 given0 asked c.args.self.now.line c.shut-then-is_empty.new.self _ _ _ there (inl late) (c.shut-then-is_empty.ensures.says paths) (gave_given _ _ _ gave)
          (serves_as c.args.self.now.seat.driver paths line0 given0 asked _ _ _ false _ going s);
      none = c.shut-then-is_empty.ensures.none;
    }

pub returns : goal.returns
returns g c =
    let h = c.requires.on in
    let there = some_there _ (rw c.if-not-is_open.false at c.is_open.ensures) in
    let going = there_going _ _ there h.done in
    let open_ = open_ready _ _ there h.askable (c.has_smudge.ensures.yes c.if-not-has_smudge.false) in
    let k = c.rounds.ensures in record {
      done = k.done;
      noting = k.noting;
      grows = k.grows;
      over = λ paths line0 given0 asked fit names s.
          k.over paths line0 given0 asked fit names
          (rounds_begin c.args.self.now.seat.driver paths line0 given0 asked c.args.self.now.line.session c.args.self.now.line _ (paths_of (cards_of c.args.self.now.late)) _ refl open_ (some_cards (cards_of c.args.self.now.late) (c.is_empty.ensures.no c.if-is_empty.false)) refl
          (serves_as c.args.self.now.seat.driver paths line0 given0 asked _ _ _ false _ going s));
      none = k.none;
    }
