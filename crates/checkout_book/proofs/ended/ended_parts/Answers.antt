use Rattle.std.proofs.Common.{◌≡◌, ◌++◌, ◌∷◌, [], length, length-append, refl, sym, ap, ◌∙◌, arith, append_assoc}
use Rattle.std.proofs.lemmas.List.{append-nil}
use Rattle.checkout_book.specs.Ending.{parts_in}
use Rattle.checkout_book.proofs.Endings.{parts_next, none_left}
use Rattle.checkout_book.proofs.ended.ended_parts.Goals as goal

pub loop-slot-init : goal.loop-slot-init
loop-slot-init g c = record {
  whole = c.into_iter-slot-iterator.ensures.into_iter_gives.0;
  parts = c.requires.empty;
  few = omega (arith, ap length c.requires.empty);
  room = refl;
  can = tt;
  ends = tt;
}

pub push_reserved-requires : goal.push_reserved-requires
push_reserved-requires g c =
    let i = c.loop-slot.invariant in
    let room = i.room in
    omega (
      arith,
      c.loop-slot.parts.ok.0,
      i.few,
      ap length i.whole,
      length-append c.loop-slot.yielded c.loop-slot.slot-iterator.rest.items,
      ap length c.in-Some.ensures.steps.0,
      room,
      c.requires.room,
    )

pub loop-slot-preserved-in-Ended : goal.loop-slot-preserved-in-Ended
loop-slot-preserved-in-Ended g c =
    let i = c.loop-slot.invariant in
    let y = c.loop-slot.yielded in
    let x = c.in-Some.slot in
    let p = c.push_reserved.ensures.items in
    record {
      whole = append_assoc y (x ∷ []) c.next.new.self.rest.items ∙ (ap (λ l. y ++ l) (sym c.in-Some.ensures.steps.0)
          ∙ i.whole);
      parts = parts_next y x c.loop-slot.parts.items c.push_reserved.new.self.items ((
        c.in-Ended.blob,
        c.in-Ended.leaf,
      ) ∷ []) i.parts p (ap (λ s. parts_in (s ∷ [])) c.in-Ended.is);
      few = omega (
        arith,
        ap length p,
        length-append c.loop-slot.parts.items ((c.in-Ended.blob, c.in-Ended.leaf) ∷
            []),
        length-append y (x ∷ []),
        i.few,
      );
      room = c.push_reserved.ensures.capacity ∙ i.room;
      can = tt;
      ends = tt;
    }

pub loop-slot-preserved-in-Waits : goal.loop-slot-preserved-in-Waits
loop-slot-preserved-in-Waits g c =
    let i = c.loop-slot.invariant in
    let y = c.loop-slot.yielded in
    let x = c.in-Some.slot in
    record {
      whole = append_assoc y (x ∷ []) c.next.new.self.rest.items ∙ (ap (λ l. y ++ l) (sym c.in-Some.ensures.steps.0)
          ∙ i.whole);
      parts = parts_next y x c.loop-slot.parts.items c.loop-slot.parts.items [] i.parts (sym (append-nil
          c.loop-slot.parts.items)) (ap (λ s. parts_in (s ∷ [])) c.in-Waits.is);
      few = omega (arith, length-append y (x ∷ []), i.few);
      room = i.room;
      can = tt;
      ends = tt;
    }

pub loop-slot-preserved : goal.loop-slot-preserved
loop-slot-preserved g c =
    let i = c.loop-slot.invariant in
    let y = c.loop-slot.yielded in
    let x = c.in-Some.slot in
    record {
      whole = append_assoc y (x ∷ []) c.next.new.self.rest.items ∙ (ap (λ l. y ++ l) (sym c.in-Some.ensures.steps.0)
          ∙ i.whole);
      parts = parts_next y x c.loop-slot.parts.items c.loop-slot.parts.items [] i.parts (sym (append-nil
          c.loop-slot.parts.items)) (ap (λ s. parts_in (s ∷ [])) c.in-Away.is);
      few = omega (arith, length-append y (x ∷ []), i.few);
      room = i.room;
      can = tt;
      ends = tt;
    }

pub returns : goal.returns
returns g c =
    let i = c.loop-slot.invariant in
    let y = c.loop-slot.yielded in
    let left = c.loop-slot.slot-iterator.rest in
    let none = none_left left.items (sym left.ok.0 ∙ c.in-None.ensures.steps.0) in
    let whole : y ≡ c.args.slots.items = sym (append-nil y) ∙ (ap (λ l. y ++ l) (sym none) ∙ i.whole) in
    i.parts ∙ ap parts_in whole
