use Rattle.std.proofs.Common.{◌≡◌, ℕ, ◌<◌, List, [], ◌∷◌, ◌++◌, set, Bool, Some, refl, sym, ap, ◌∙◌}
use Rattle.std.proofs.Common.{subst, arith, get_or}
use Rattle.std.specs.Prelude.{slice_get}
use Rattle.std.specs.Vec.{vec_capacity}
use Rattle.std.proofs.lemmas.Option.{slice_get-get_or}
use Rattle.checkout_core.specs.Steps.{step_of}
use Rattle.checkout_core.specs.declared.event.Event.TheVariants.{Claim}
use Rattle.checkout_book.specs.declared.shelf.Slot.TheVariants.{Away, Waits}
use Rattle.checkout_book.specs.Shelves.{plan_of, Sound}
use Rattle.checkout_book.specs.Sights.{sight}
use Rattle.checkout_book.proofs.Lists.{past_none}
use Rattle.checkout_book.proofs.Flags.{found}
use Rattle.checkout_book.proofs.Sounding.{claim_steps, claim_sound, waited, none_waits, none_lower, has_room}
use Rattle.checkout_book.proofs.turns.Shelf+B+L.claim.Goals as goal

pub returns-in_default-clause-none : goal.returns-in_default-clause-none
returns-in_default-clause-none g c =
    let self = c.args.self.now in
    let n = c.in_default.ensures.none in
    record {
      same = ap (λ (w : List Bool). record self { waiting = w }) n.0;
      none = none_waits (sight g.B.Blob.told g.B.Blob.seen g.L.Leaf.seen) (plan_of self) self.core self.events.items
          self.slots.items self.waiting _ c.requires.sound n.1;
    }

pub index_mut-requires : goal.index_mut-requires
index_mut-requires g c =
    let self = c.args.self.now in
    let f = found self.slots.items c.in-Some.path (ap (λ l. slice_get l c.in-Some.path) (sym c.requires.sound.flags)
    ∙ c.in-Some.ensures.some.0.0) in
    let lt = past_none self.slots.items c.in-Some.path (Waits f.card) f.at in
    omega (arith, lt, self.slots.ok.0)

pub unreachable-requires : goal.unreachable-requires
unreachable-requires g c =
    let self = c.args.self.now in
    let at = c.in-Some.path in
    let f = found self.slots.items at (ap (λ l. slice_get l at) (sym c.requires.sound.flags) ∙
    c.in-Some.ensures.some.0.0) in
    let lt = past_none self.slots.items at (Waits f.card) f.at in
    let read : Some (get_or self.slots.items at c.index_mut.result.now) ≡ Some (Waits f.card) = sym (slice_get-get_or
    self.slots.items at c.index_mut.result.now lt) ∙ f.at in
    c.in_default-replace.not-Waits f.card (c.replace.ensures.value ∙ (c.index_mut.ensures.value ∙ cc (read)))

pub take-requires : goal.take-requires
take-requires g c =
    let self = c.args.self.now in
    let at = c.in-Some.path in
    let f = found self.slots.items at (ap (λ l. slice_get l at) (sym c.requires.sound.flags) ∙
    c.in-Some.ensures.some.0.0) in
    claim_steps (sight g.B.Blob.told g.B.Blob.seen g.L.Leaf.seen) c.a_waiting_path_may_be_claimed.ensures
    c.a_history_keeps_its_size.ensures (plan_of self) self.core self.events.items self.slots.items self.waiting _
    at c.args.actor f.card c.requires.sound f.at c.requires.actor

pub push_reserved-requires : goal.push_reserved-requires
push_reserved-requires g c =
    let self = c.args.self.now in
    let r = has_room (sight g.B.Blob.told g.B.Blob.seen g.L.Leaf.seen) c.a_history_is_short.ensures (plan_of self)
    self.core c.take.new.core self.events.items self.slots.items self.waiting _ (Claim c.in-Some.path
    c.args.actor) c.requires.sound c.take.ensures in
    omega (arith, r, self.events.ok.0)

pub returns-clause-sound : goal.returns-clause-sound
returns-clause-sound g c =
    let self = c.args.self.now in
    let d = plan_of self in
    let at = c.in-Some.path in
    let e = Claim at c.args.actor in
    let f = found self.slots.items at (ap (λ l. slice_get l at) (sym c.requires.sound.flags) ∙
    c.in-Some.ensures.some.0.0) in
    let b0 = claim_sound (sight g.B.Blob.told g.B.Blob.seen g.L.Leaf.seen) c.a_claim_takes_its_path.ensures d
    self.core c.take.new.core self.events.items self.slots.items self.waiting c.take_lowest.new.self _ at
    c.args.actor f.card c.requires.sound f.at c.take.ensures c.in-Some.ensures.some.1 in
    let b = subst (λ z. Sound (sight g.B.Blob.told g.B.Blob.seen g.L.Leaf.seen) d c.take.new.core (self.events.items
    ++ e ∷ []) (set self.slots.items at z) c.take_lowest.new.self (vec_capacity self.events)) (sym
    c.replace.ensures.after) b0 in
    let q = subst (λ es. Sound (sight g.B.Blob.told g.B.Blob.seen g.L.Leaf.seen) d c.take.new.core es (set
    self.slots.items at c.replace.new.dest) c.take_lowest.new.self (vec_capacity self.events)) (sym
    c.push_reserved.ensures.items) b in
    subst (λ (n : ℕ). Sound (sight g.B.Blob.told g.B.Blob.seen g.L.Leaf.seen) d c.take.new.core
    c.push_reserved.new.self.items (set self.slots.items at c.replace.new.dest) c.take_lowest.new.self n) (sym
    c.push_reserved.ensures.capacity) q

pub returns-clause-some : goal.returns-clause-some
returns-clause-some g c =
    let self = c.args.self.now in
    let d = plan_of self in
    let at = c.in-Some.path in
    let card = c.in-Waits.card in
    let f = found self.slots.items at (ap (λ l. slice_get l at) (sym c.requires.sound.flags) ∙
    c.in-Some.ensures.some.0.0) in
    let lt = past_none self.slots.items at (Waits f.card) f.at in
    let was : slice_get self.slots.items at ≡ Some (Waits card) = slice_get-get_or self.slots.items at
    c.index_mut.result.now lt ∙ ap (λ z. Some z) (sym c.index_mut.ensures.value ∙ (sym c.replace.ensures.value ∙
    c.in-Waits.is)) in
    let w = waited (sight g.B.Blob.told g.B.Blob.seen g.L.Leaf.seen) d self.core self.events.items self.slots.items
    self.waiting _ at card c.requires.sound was in
    let p : at ≡ card.path = sym w.is_path in
    let lowest = none_lower (sight g.B.Blob.told g.B.Blob.seen g.L.Leaf.seen) d self.core self.events.items
    self.slots.items self.waiting _ at c.requires.sound c.in-Some.ensures.some.0.1 in
    record {
      turned = record {
        plan = refl;
        events = c.push_reserved.ensures.items ∙ ap (λ k. self.events.items ++ Claim k c.args.actor ∷ []) p;
        step = subst (λ k. step_of self.core (Claim k c.args.actor) ≡ Some c.take.new.core) p c.take.ensures;
        slots = ap (set self.slots.items at) c.replace.ensures.after ∙ ap (λ k. set self.slots.items k Away) p;
      };
      was = subst (λ k. slice_get self.slots.items k ≡ Some (Waits card)) p was;
      lowest = λ q x h i. lowest q x (subst (λ k. q < k) (sym p) h) i;
    }
