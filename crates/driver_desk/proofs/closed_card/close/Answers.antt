use Rattle.std.proofs.Common.{refl}
use Rattle.driver_desk.specs.Serving.{Closed}
use Rattle.driver_desk.proofs.closed_card.close.Goals as goal

pub close-requires-clause-card : goal.close-requires-clause-card
close-requires-clause-card g c = let h = c.requires.shows in (h.place, h.planned, h.here, h.same)

pub returns : goal.returns
returns g c = record {
  ends = record { last = Closed c.args.own _; is = c.close.ensures.gave; path = refl; may = c.requires.next; shows = c.requires.shows; how = refl };
}
