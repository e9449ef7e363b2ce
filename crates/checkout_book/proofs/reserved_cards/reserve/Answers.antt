use Rattle.checkout_book.proofs.reserved_cards.reserve.Goals as goal

pub begin-requires : goal.begin-requires
begin-requires g c = c.requires.plan
