use Rattle.std.proofs.Common.{◌≡◌, ◌++◌, ◌∷◌, [], Some, length, refl, sym, ap, ◌∙◌, arith, append_assoc, set}
use Rattle.std.specs.Prelude.{slice_get}
use Rattle.checkout_book.specs.declared.shelf.Slot.TheVariants.{Waits}
use Rattle.checkout_book.proofs.Lists.{get_middle}
use Rattle.checkout_book.proofs.Finishing.{placed_more, placed_length}
use Rattle.checkout_book.proofs.reserved_cards.place.Goals as goal

pub loop-card-init : goal.loop-card-init
loop-card-init g c = record {
  slots = refl;
  whole = c.into_iter-card-iterator.ensures.into_iter_gives.0;
  can = tt;
  ends = tt;
}

pub index_mut-requires : goal.index_mut-requires
index_mut-requires g c =
    let i = c.loop-card.invariant in
    let card = c.in-Some.card in
    let all : c.loop-card.yielded ++ card ∷ c.next.new.self.rest.items ≡ c.args.pool.items = ap (λ l.
    c.loop-card.yielded ++ l) (sym c.in-Some.ensures.steps.0) ∙ i.whole in
    let at : slice_get c.args.pool.items (length c.loop-card.yielded) ≡ Some card = ap (λ l. slice_get l (length
    c.loop-card.yielded)) (sym all) ∙ get_middle c.loop-card.yielded c.next.new.self.rest.items card in
    let lt = c.requires (length c.loop-card.yielded) card at in
    let len = ap length i.slots ∙ placed_length c.args.slots.items c.loop-card.yielded in
    omega (arith, lt, len, c.loop-card.slots.ok.0)

pub loop-card-preserved : goal.loop-card-preserved
loop-card-preserved g c =
    let i = c.loop-card.invariant in
    let card = c.in-Some.card in
    record {
      slots = ap (set c.loop-card.slots.items card.path) c.replace.ensures.after ∙ (ap (λ l. set l card.path (Waits
          card)) i.slots ∙ sym (placed_more c.args.slots.items c.loop-card.yielded card));
      whole = append_assoc c.loop-card.yielded (card ∷ []) c.next.new.self.rest.items ∙ (ap (λ l. c.loop-card.yielded
          ++ l) (sym c.in-Some.ensures.steps.0) ∙ i.whole);
      can = tt;
      ends = tt;
    }
