use Rattle.driver_desk.specs.Progress.{IsBare}
use Rattle.driver_desk.proofs.NotedTalks.{noting_closed}
use Rattle.driver_desk.proofs.OnDesk.{grows_both}
use Rattle.driver_desk.proofs.OnRounds.{open_next, turns_by, goes_same, goes_both}
use Rattle.driver_desk.proofs.RoundCalls.{rounds_lost, done_lost}
use Rattle.driver_desk.proofs.RoundSteps.{rounds_over, some_there, turns_none}
use Rattle.driver_desk.proofs.Serves.{is_none}
use Rattle.driver_desk.proofs.served.Serving.rounds.Goals as goal

pub loop-self-init : goal.loop-self-init
loop-self-init g c = record { on = c.requires.on; turns = turns_by _ _ c.requires.none; goes = goes_same _ _ _ }

pub loop-self-preserved : goal.loop-self-preserved
loop-self-preserved g c =
    let e = c.one_round.ensures in record {
      on = e.on;
      turns = e.turns;
      goes = goes_both _ _ _ _ _ _ _ _ _ c.loop-self.invariant.goes e.goes;
    }

pub one_round-requires-clause-on : goal.one_round-requires-clause-on
one_round-requires-clause-on g c κs within = c.loop-self.invariant.on

pub one_round-requires-clause-opened : goal.one_round-requires-clause-opened
one_round-requires-clause-opened g c κs within = open_next _ (some_there _ (rw c.loop-self-test.true at c.is_open.ensures)) c.loop-self.invariant.on.next

pub one_round-requires-clause-none : goal.one_round-requires-clause-none
one_round-requires-clause-none g c κs within = turns_none _ _ (some_there _ (rw c.loop-self-test.true at c.is_open.ensures)) c.loop-self.invariant.turns

pub close_late-requires : goal.close_late-requires
close_late-requires g c =
    let h = c.loop-self.invariant.on in
    let k = rounds_lost _ _ c.loop-self.self.line.session _ _ (is_none _ (rw c.loop-self-test.false at c.is_open.ensures)) h.state h.apart in record {
      ready = h.ready;
      next = (k.0, k.1, k.2, k.3);
    }

pub returns : goal.returns
returns g c =
    let h = c.loop-self.invariant in
    let none = is_none _ (rw c.loop-self-test.false at c.is_open.ensures) in
    let k = rounds_lost _ _ c.loop-self.self.line.session _ _ none h.on.state h.on.apart in
    let l = c.close_late.ensures in record {
      done = done_lost _ _ k.0 k.1 k.2 k.5 k.4 (l.next k.0 k.1 k.2 k.3);
      noting = noting_closed IsBare _ _ _ _ _ _ _ h.on.noting l.grows.standing l.closed;
      grows = grows_both _ _ _ h.goes.grows l.grows;
      over = λ paths line0 given0 asked fit names z.
          rounds_over c.args.self.now.seat.driver paths line0 given0 asked c.loop-self.self.line.session c.loop-self.self.line _ _ _ _ none l.closed (h.goes.talk paths line0 given0 asked fit names z);
      none = none;
    }
