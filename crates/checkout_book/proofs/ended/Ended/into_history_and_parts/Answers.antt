use Rattle.checkout_book.specs.Sights.{sight}
use Rattle.checkout_book.proofs.Endings.{parts_told}
use Rattle.checkout_book.proofs.ended.Ended.into_history_and_parts.Goals as goal

pub ended_parts-requires-clause-empty : goal.ended_parts-requires-clause-empty
ended_parts-requires-clause-empty g c = c.requires.room.0

pub ended_parts-requires-clause-room : goal.ended_parts-requires-clause-room
ended_parts-requires-clause-room g c = c.requires.room.1

pub returns-clause-told : goal.returns-clause-told
returns-clause-told g c = parts_told (sight g.B.Blob.told g.B.Blob.seen g.L.Leaf.seen) c.args.self.shelf
    c.a_history_keeps_its_size.ensures c.requires.sound c.ended_parts.result.items c.ended_parts.ensures
