use Rattle.std.proofs.Common.{◌≡◌, ℕ, [], ◌∷◌, ◌++◌, Some, set, length-set, get_or, refl, sym, ap, ◌∙◌}
use Rattle.std.proofs.Common.{subst, arith}
use Rattle.std.specs.Vec.{vec_capacity}
use Rattle.std.proofs.lemmas.Option.{slice_get-get_or}
use Rattle.checkout_core.specs.declared.event.Event.TheVariants.{Close}
use Rattle.checkout_book.specs.declared.shelf.Slot.TheVariants.{Away}
use Rattle.checkout_book.specs.Shelves.{plan_of, Sound}
use Rattle.checkout_book.specs.Sights.{sight}
use Rattle.checkout_book.proofs.Lists.{past_none}
use Rattle.checkout_book.proofs.Sounding.{close_away, close_sound, has_room}
use Rattle.checkout_book.proofs.turns.Shelf+B+L.close.Goals as goal

pub index_mut-requires : goal.index_mut-requires
index_mut-requires g c =
    let self = c.args.self.now in
    let at = c.args.path in
    let away = close_away (sight g.B.Blob.told g.B.Blob.seen g.L.Leaf.seen) c.a_close_closes_its_path.ensures
    (plan_of self) self.core c.take.new.core self.events.items self.slots.items self.waiting _ at c.args.actor c.args.own
    c.requires.sound c.take.ensures in
    let lt = past_none self.slots.items at Away away in
    omega (arith, lt, self.slots.ok.0)

pub unreachable-requires : goal.unreachable-requires
unreachable-requires g c =
    let self = c.args.self.now in
    let at = c.args.path in
    let away = close_away (sight g.B.Blob.told g.B.Blob.seen g.L.Leaf.seen) c.a_close_closes_its_path.ensures
    (plan_of self) self.core c.take.new.core self.events.items self.slots.items self.waiting _ at c.args.actor c.args.own
    c.requires.sound c.take.ensures in
    let lt = past_none self.slots.items at Away away in
    let read : Some (get_or self.slots.items at c.index_mut.result.now) ≡ Some Away = sym (slice_get-get_or
    self.slots.items at c.index_mut.result.now lt) ∙ away in
    c.in_default.not-Away (c.replace.ensures.value ∙ (c.index_mut.ensures.value ∙ cc (read)))

pub push_reserved-requires : goal.push_reserved-requires
push_reserved-requires g c =
    let self = c.args.self.now in
    let r = has_room (sight g.B.Blob.told g.B.Blob.seen g.L.Leaf.seen) c.a_history_is_short.ensures (plan_of self)
    self.core c.take.new.core self.events.items self.slots.items self.waiting _ (Close c.args.path c.args.actor
    c.args.own) c.requires.sound c.take.ensures in
    omega (arith, r, self.events.ok.0)

pub returns-clause-sound : goal.returns-clause-sound
returns-clause-sound g c =
    let self = c.args.self.now in
    let d = plan_of self in
    let b0 = close_sound (sight g.B.Blob.told g.B.Blob.seen g.L.Leaf.seen) c.a_close_closes_its_path.ensures d
    self.core c.take.new.core self.events.items self.slots.items self.waiting _ c.args.path c.args.actor
    c.args.own (c.args.parts).0 (c.args.parts).1 c.requires.sound c.take.ensures c.requires.from in
    let b = subst (λ z. Sound (sight g.B.Blob.told g.B.Blob.seen g.L.Leaf.seen) d c.take.new.core (self.events.items
    ++ Close c.args.path c.args.actor c.args.own ∷ []) (set self.slots.items c.args.path z) self.waiting
    (vec_capacity self.events)) (sym c.replace.ensures.after) b0 in
    let q = subst (λ es. Sound (sight g.B.Blob.told g.B.Blob.seen g.L.Leaf.seen) d c.take.new.core es (set
    self.slots.items c.args.path c.replace.new.dest) self.waiting (vec_capacity self.events)) (sym
    c.push_reserved.ensures.items) b in
    subst (λ (n : ℕ). Sound (sight g.B.Blob.told g.B.Blob.seen g.L.Leaf.seen) d c.take.new.core
    c.push_reserved.new.self.items (set self.slots.items c.args.path c.replace.new.dest) self.waiting n) (sym
    c.push_reserved.ensures.capacity) q

pub returns-clause-room : goal.returns-clause-room
returns-clause-room g c room =
    let slots = c.args.self.now.slots.items in (
      room.0,
      omega (arith, room.1, length-set slots c.args.path c.replace.new.dest),
    )

pub returns-clause-turned : goal.returns-clause-turned
returns-clause-turned g c = record {
  plan = refl;
  events = c.push_reserved.ensures.items;
  step = c.take.ensures;
  slots = ap (set c.args.self.now.slots.items c.args.path) c.replace.ensures.after;
}
