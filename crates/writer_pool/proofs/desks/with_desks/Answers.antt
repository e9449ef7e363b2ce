use Rattle.std.proofs.Common.{List, map, length, refl, ap, subst, arith}
use Rattle.std.specs.Global.{Vec}
use Rattle.turn_lock.specs.Seat.{SeatView}
use Rattle.convert_plan.specs.declared.card.Card.{Card}
use Rattle.checkout_book.specs.declared.plan.BookPlan.{BookPlan}
use Rattle.checkout_book.specs.declared.plan.HistoryEntry.{HistoryEntry}
use Rattle.checkout_book.specs.Sights.{sight}
use Rattle.writer_pool.specs.Dealing.{AreDecks}
use Rattle.writer_pool.proofs.Dealing.{desks_more}
use Rattle.writer_pool.proofs.desks.with_desks.Goals as goal

pub loop-pass-preserved : goal.loop-pass-preserved
loop-pass-preserved g c =
    let B = g.row.B.Denot in
    let L = g.row.L.Denot in
    let X : Type 0 = SeatView HistoryEntry (BookPlan B L) × Vec (Card B L) in
    let see = sight g.B.Blob.told g.B.Blob.seen g.L.Leaf.seen in
    let i = c.loop-pass.invariant in
    let at_heads = c.in-Some-next.ensures.items in
    let at_cards = c.in-Some.ensures.steps.0 in
    let heads = i.heads in
    let count = i.count in
    record {
      jobs = desks_more g.S.Starter.seen see c.args.workers c.loop-pass.driver c.loop-pass.jobs.items
          c.add_job.new.jobs.items _ c.loop-pass.heads.rest.items c.next-in-loop-pass.new.self.rest.items
          c.loop-pass.pass-iterator.rest.items c.next.new.self.rest.items c.in-Some-next.field-0
          (c.in-Some-next.field-0).required (c.in-Some.pass, c.in-Some.cards) c.in_ok-desk.desk i.jobs at_heads at_cards
          c.in_ok-desk.ensures refl c.in_ok-add_job.ensures;
      heads = omega (arith, ap length at_heads, ap length at_cards, heads);
      count = omega (arith, ap length at_cards, count);
      decks = (subst (λ (l : List X). AreDecks see (map (λ (x : X). x.1) l)) at_cards i.decks).1;
      can = tt;
      ends = tt;
    }
