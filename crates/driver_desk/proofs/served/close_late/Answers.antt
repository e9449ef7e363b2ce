use Rattle.std.proofs.Common.{◌∙◌}
use Rattle.driver_desk.proofs.Closings.{asked_read, read_bare}
use Rattle.driver_desk.proofs.RoundSteps.{taken_ready}
use Rattle.driver_desk.proofs.Serves.{closed_all, unsealed_bare}
use Rattle.driver_desk.proofs.Calls.{lost_may, lost_ends, lost_as, lost_none}
use Rattle.driver_desk.specs.Progress.{IsBare}
use Rattle.driver_desk.proofs.Ended.{ends_closed, ends_standing, is_end}
use Rattle.driver_desk.proofs.OnDesk.{grows_both, grows_end}
use Rattle.driver_desk.proofs.served.close_late.Goals as goal

pub close_empty-requires-clause-asked : goal.close_empty-requires-clause-asked
close_empty-requires-clause-asked g c = asked_read _ _ _ _ c.loop-work.invariant.grows.standing (taken_ready _ _ _ _ _ c.in-Some.ensures.next.1 c.loop-work.invariant.ready).0

pub close_empty-requires-clause-may : goal.close_empty-requires-clause-may
close_empty-requires-clause-may g c =
    let r = c.requires.next in
    lost_may c.desk_laws.ensures _ _ _ _ _ _ r.0 r.1 r.2 (c.loop-work.invariant.next r.0 r.1 r.2 r.3) c.in-Some.ensures.next.1

pub loop-work-preserved : goal.loop-work-preserved
loop-work-preserved g c =
    let h = c.loop-work.invariant in
    record {
      ready = (taken_ready _ _ _ _ _ c.in-Some.ensures.next.1 h.ready).1;
      closed = closed_all IsBare _ _ _ h.closed (unsealed_bare _ _ _ _ (read_bare _ _ _ (taken_ready _ _ _ _ _ c.in-Some.ensures.next.1 h.ready).0) (ends_closed _ _ _ _ c.close_empty.ensures.ends));
      names = (c.next_late.ensures.names.0 ∙ h.names.0, c.next_late.ensures.names.1 ∙ h.names.1);
      idle = λ q k. c.next_late.ensures.idle q (h.idle q k);
      turns = λ e. c.next_late.ensures.turns (h.turns e);
      grows = grows_both _ _ _ h.grows (grows_end _ _ _ _ c.close_empty.ensures.ends);
      next = λ rest first t a. lost_as _ _ _ _ rest first t (ends_standing _ _ _ _ c.close_empty.ensures.ends)
          (lost_ends c.desk_laws.ensures _ _ _ _ _ _ _ rest first t (h.next rest first t a) c.in-Some.ensures.next.1 (is_end _ _ _ _ c.close_empty.ensures.ends));
    }

pub returns-clause-next : goal.returns-clause-next
returns-clause-next g c rest first t a = lost_none _ _ _ rest first t c.in_default.ensures.next.0 (c.loop-work.invariant.next rest first t a)

pub returns-clause-closed : goal.returns-clause-closed
returns-clause-closed g c = c.loop-work.invariant.closed

pub returns-clause-emptied : goal.returns-clause-emptied
returns-clause-emptied g c =
    let h = c.loop-work.invariant in
    let n = c.next_late.ensures in record {
      none = c.in_default.ensures.next.1;
      names = (n.names.0 ∙ h.names.0, n.names.1 ∙ h.names.1);
      idle = λ q k. n.idle q (h.idle q k);
      turns = λ e. n.turns (h.turns e);
    }
