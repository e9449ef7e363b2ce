use Rattle.std.proofs.Common.{ℕ, sym, subst}
use Rattle.std.proofs.Common.{arith}
use Rattle.std.specs.Vec.{vec_capacity}
use Rattle.checkout_book.specs.Shelves.{plan_of, Sound}
use Rattle.checkout_book.specs.Sights.{sight}
use Rattle.checkout_book.proofs.Sounding.{note_sound, has_room}
use Rattle.checkout_book.proofs.turns.Shelf+B+L.note.Goals as goal

pub push_reserved-requires : goal.push_reserved-requires
push_reserved-requires g c =
    let self = c.args.self.now in
    let r = has_room (sight g.B.Blob.told g.B.Blob.seen g.L.Leaf.seen) c.a_history_is_short.ensures (plan_of self)
    self.core c.take.new.core self.events.items self.slots.items self.waiting _ c.args.event c.requires.sound
    c.take.ensures in
    omega (arith, r, self.events.ok.0)

pub returns-clause-sound : goal.returns-clause-sound
returns-clause-sound g c =
    let self = c.args.self.now in
    let d = plan_of self in
    let b = note_sound (sight g.B.Blob.told g.B.Blob.seen g.L.Leaf.seen)
    c.a_note_keeps_paths_with_their_driver.ensures d self.core c.take.new.core self.events.items self.slots.items
    self.waiting _ c.args.event c.requires.sound c.requires.noted c.requires.by c.take.ensures in
    let q = subst (λ es. Sound (sight g.B.Blob.told g.B.Blob.seen g.L.Leaf.seen) d c.take.new.core es
    self.slots.items self.waiting (vec_capacity self.events)) (sym c.push_reserved.ensures.items) b in
    subst (λ (n : ℕ). Sound (sight g.B.Blob.told g.B.Blob.seen g.L.Leaf.seen) d c.take.new.core
    c.push_reserved.new.self.items self.slots.items self.waiting n) (sym c.push_reserved.ensures.capacity) q
