use Rattle.checkout_book.specs.Sights.{sight}
use Rattle.bench_books.proofs.Working.{taken_may_close}
use Rattle.bench_books.proofs.runs.close_next.Goals as goal

pub close-requires-clause-goes_on : goal.close-requires-clause-goes_on
close-requires-clause-goes_on g c = c.in-Some.ensures.goes_on

pub close-requires-clause-held : goal.close-requires-clause-held
close-requires-clause-held g c = c.in-Some.ensures.card.held

pub close-requires-clause-step : goal.close-requires-clause-step
close-requires-clause-step g c =
    taken_may_close c.a_path_in_hand_may_be_closed.ensures (sight g.B.Blob.told g.B.Blob.seen g.L.Leaf.seen) 0 _ _
    c.in-Some.ensures.card

pub close-requires-clause-out : goal.close-requires-clause-out
close-requires-clause-out g c = c.a_claimed_card_is_out.ensures _ _ c.in-Some.ensures.card.planned

pub returns : goal.returns
returns g c = c.close.ensures.goes_on
