use Rattle.std.proofs.Common.{map, sym, ap, ◌∙◌}
use Rattle.turn_lock.specs.Seat.{seen_of}
use Rattle.checkout_book.proofs.Histories.{own_events}
use Rattle.checkout_book.proofs.laws.a_pass_lists_its_own_entries.Goals as goal

pub returns : goal.returns
returns g c lock d n made pass core is =
    own_events d.starts.items d.workers n (seen_of pass) is.reads.stamped
    ∙ ap (map (λ e. e.event)) (sym is.seat.receipts)
