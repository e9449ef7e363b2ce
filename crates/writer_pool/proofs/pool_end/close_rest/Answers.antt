use Rattle.std.proofs.Common.{sym, ap, ◌∙◌, subst}
use Rattle.convert_plan.specs.Card.{CardSeen, IsCardOf}
use Rattle.checkout_core.specs.Hands.{held_at}
use Rattle.checkout_book.specs.declared.plan.BookPlan.{BookPlan}
use Rattle.checkout_book.specs.Sights.{sight, seen}
use Rattle.checkout_book.specs.Shelves.{cards_of, IsOut, plan_of}
use Rattle.writer_pool.proofs.CoreMoves.{held_here}
use Rattle.writer_pool.proofs.Resting.{in_hand, held_may_close, rest_turn, rest_seals}
use Rattle.writer_pool.proofs.Noting.{turn_quiet, turn_own}
use Rattle.writer_pool.proofs.pool_end.close_rest.Goals as goal

pub take_waiting-requires : goal.take_waiting-requires
take_waiting-requires g c = c.loop-card.invariant.quiet.goes_on

pub write_card-card-requires : goal.write_card-card-requires
write_card-card-requires g c =
    let see = sight g.B.Blob.told g.B.Blob.seen g.L.Leaf.seen in
    let q = c.loop-card.invariant.quiet in
    let h = in_hand see c.a_claim_takes_its_path.ensures c.loop-card.ended.shelf c.take_waiting.new.self.shelf
    c.in-Some.card q.goes_on c.in-Some.ensures.some in
    c.a_claimed_card_may_be_written.ensures.write (cards_of (plan_of c.loop-card.ended.shelf)) c.in-Some.card h.raw
    q.goes_on.sound.new h.planned h.so

pub close-requires-clause-held : goal.close-requires-clause-held
close-requires-clause-held g c =
    let see = sight g.B.Blob.told g.B.Blob.seen g.L.Leaf.seen in
    let q = c.loop-card.invariant.quiet in
    let h = in_hand see c.a_claim_takes_its_path.ensures c.loop-card.ended.shelf c.take_waiting.new.self.shelf
    c.in-Some.card q.goes_on c.in-Some.ensures.some in
    ap (held_at c.take_waiting.new.self.shelf.core 0) (ap (λ (z : CardSeen). z.path) c.write_card-card.ensures.kept)
    ∙ held_here c.take_waiting.new.self.shelf.core c.in-Some.card.path 0 h.raw h.holds

pub close-requires-clause-step : goal.close-requires-clause-step
close-requires-clause-step g c =
    let see = sight g.B.Blob.told g.B.Blob.seen g.L.Leaf.seen in
    let q = c.loop-card.invariant.quiet in
    let h = in_hand see c.a_claim_takes_its_path.ensures c.loop-card.ended.shelf c.take_waiting.new.self.shelf
    c.in-Some.card q.goes_on c.in-Some.ensures.some in
    held_may_close see c.a_path_in_hand_may_be_closed.ensures c.a_claimed_card_may_be_written.ensures.verdict
    c.take_waiting.new.self.shelf.core c.in-Some.card c.write_card-card.result.card h.raw 0 c.write_card-card.result.own h.holds h.so c.write_card-card.ensures.kept
    c.write_card-card.ensures.read

pub close-requires-clause-out : goal.close-requires-clause-out
close-requires-clause-out g c =
    let see = sight g.B.Blob.told g.B.Blob.seen g.L.Leaf.seen in
    let q = c.loop-card.invariant.quiet in
    let h = in_hand see c.a_claim_takes_its_path.ensures c.loop-card.ended.shelf c.take_waiting.new.self.shelf
    c.in-Some.card q.goes_on c.in-Some.ensures.some in
    subst (λ (d : BookPlan g.row.B.Denot g.row.L.Denot). IsOut see (cards_of d) c.write_card-card.result.card)
    (sym c.in-Some.ensures.some.turned.plan) (
      h.planned.0,
      h.planned.1,
      h.planned.2,
      subst (λ (z : CardSeen). IsCardOf z (seen see c.write_card-card.result.card)) h.planned.3
          c.write_card-card.ensures.kept,
    )

pub loop-card-preserved : goal.loop-card-preserved
loop-card-preserved g c =
    let see = sight g.B.Blob.told g.B.Blob.seen g.L.Leaf.seen in
    record {
      quiet = rest_turn see c.a_claim_takes_its_path.ensures c.a_close_closes_its_path.ensures
          c.a_claimed_card_may_be_written.ensures.shown c.loop-card.ended.shelf c.take_waiting.new.self.shelf c.close.new.self.shelf c.in-Some.card c.write_card-card.result.card
          c.write_card-card.result.own c.loop-card.invariant.quiet c.in-Some.ensures.some c.close.ensures.closed
          c.close.ensures.goes_on c.write_card-card.ensures.kept c.write_card-card.ensures.wrote;
      plan = c.close.ensures.closed.plan ∙ (c.in-Some.ensures.some.turned.plan ∙ c.loop-card.invariant.plan);
      seals = λ q p leaf z. c.loop-card.invariant.seals q p leaf (rest_seals see c.loop-card.ended.shelf
          c.take_waiting.new.self.shelf c.close.new.self.shelf c.in-Some.card c.write_card-card.result.card
          c.write_card-card.result.own c.loop-card.invariant.quiet c.in-Some.ensures.some c.close.ensures.closed
          c.write_card-card.ensures.kept q p leaf z);
      notes = λ starts d. turn_quiet starts d c.in-Some.card.path c.write_card-card.result.card.path 0 0
          c.write_card-card.result.own c.loop-card.ended.shelf.events.items
          c.take_waiting.new.self.shelf.events.items c.close.new.self.shelf.events.items
          c.in-Some.ensures.some.turned.events c.close.ensures.closed.events
          ∙ c.loop-card.invariant.notes starts d;
      own = λ starts workers n more. turn_own starts workers n c.in-Some.card.path c.write_card-card.result.card.path
          c.write_card-card.result.own c.loop-card.ended.shelf.events.items
          c.take_waiting.new.self.shelf.events.items c.close.new.self.shelf.events.items more
          c.in-Some.ensures.some.turned.events c.close.ensures.closed.events
          ∙ c.loop-card.invariant.own starts workers n more;
    }
