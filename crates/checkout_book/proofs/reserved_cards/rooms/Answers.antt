use Rattle.std.proofs.Common.{arith}
use Rattle.checkout_book.proofs.reserved_cards.rooms.Goals as goal

pub returns-clause-no_event : goal.returns-clause-no_event
returns-clause-no_event g c = c.in_ok-events.ensures.none

pub returns-clause-events : goal.returns-clause-events
returns-clause-events g c = c.in_ok-events.ensures.room

pub returns-clause-no_part : goal.returns-clause-no_part
returns-clause-no_part g c = c.in_ok-parts.ensures.items

pub returns-clause-parts : goal.returns-clause-parts
returns-clause-parts g c = let room = c.in_ok-parts.ensures.capacity in omega (arith, room)
