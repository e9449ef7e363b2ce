use Rattle.checkout_book.specs.Sights.{sight}
use Rattle.checkout_book.specs.Shelves.{plan_of, cards_of}
use Rattle.checkout_book.proofs.Turning.{out_from, close_grown}
use Rattle.checkout_book.proofs.ended.Ended.close.Goals as goal

pub close-requires-clause-from : goal.close-requires-clause-from
close-requires-clause-from g c =
    out_from (sight g.B.Blob.told g.B.Blob.seen g.L.Leaf.seen) (cards_of (plan_of c.args.self.now.shelf)) c.args.card
    c.requires.out

pub returns-clause-history : goal.returns-clause-history
returns-clause-history g c =
    close_grown (sight g.B.Blob.told g.B.Blob.seen g.L.Leaf.seen) c.a_close_closes_its_path.ensures 0 c.args.card.path
    c.args.own c.args.card.blob c.args.card.leaf c.args.self.now.shelf c.close.new.self c.close.ensures.turned
    c.requires.goes_on.sound
