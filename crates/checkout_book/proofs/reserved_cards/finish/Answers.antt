use Rattle.checkout_book.specs.Sights.{sight}
use Rattle.checkout_book.proofs.Finishing.{seats_of, finished}
use Rattle.checkout_book.proofs.reserved_cards.finish.Goals as goal

pub end-shelf-requires : goal.end-shelf-requires
end-shelf-requires g c = let r = c.requires in record { all = (r.0, r.2, seats_of _ r.0 0 _ c.args.passes.items r.1) }

pub returns : goal.returns
returns g c d idle =
    let f = c.end-shelf.ensures.fits d (seats_of _ d 0 _ c.args.passes.items idle) in
    finished (sight g.B.Blob.told g.B.Blob.seen g.L.Leaf.seen) c.own_entries_tell_what_is_in_hand.ensures _ d _
    c.args.passes.items c.end-shelf.result idle f.0 f.1 f.2 c.end-shelf.ensures.seen c.end-shelf.ensures.mine
    c.end-shelf.ensures.none
