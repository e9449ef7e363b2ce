use Rattle.std.proofs.Common.{◌≡◌, ◌<◌, ◌≤◌, List, true, false, refl, sym, ap, ◌∙◌, subst, length, get_or}
use Rattle.std.specs.Prelude.{slice_get, slice_set}
use Rattle.delay_table.specs.Table.{is_pending}
use Rattle.delay_table.specs.Fields.{IsKept}
use Rattle.delay_table.specs.declared.place.Place.{Place}
use Rattle.delay_table.specs.declared.place.Place.TheVariants.{Done}
use Rattle.delay_table.proofs.Kept.{kept_higher, kept_rested}
use Rattle.delay_table.proofs.Places.{read_at, in_places}
use Rattle.delay_table.proofs.table.DelayTable.rest.Goals as goal

pub invariant_of-self-2 : goal.invariant_of-self-2
invariant_of-self-2 c =
    let ps = c.self.inside.places.items in
    let low = c.first_pending-self-inside.result in
    let f = c.first_pending-self-inside.ensures in
    let x = c.in_ok-place.field-0.now in
    let v = c.deref.ensures.value in
    let lt = in_places low ps c.deref-2.result.now c.deref-2.ensures.value c.in_ok-place.ensures.lookup.0 in
    let at = read_at ps low x x lt
    (subst (λ l. x ≡ get_or l low x) c.deref-2.ensures.value c.in_ok-place.ensures.lookup.1) refl in
    let k = kept_higher _ _ _ _ _ _ c.self.invariant low f.up (subst (λ (l : List Place). low ≤ length l) v f.within)
    (λ q up more. subst (λ l. is_pending (slice_get l q) ≡ false) v (f.none q up more)) in
    subst (λ room. IsKept c.self.inside.names.items (slice_set ps low Done) c.strike.new.order.items room
    c.self.inside.delivered low) (sym c.strike.ensures.room)
    (kept_rested _ _ _ _ _ _ k c.strike.new.order.items x at
    (sym (ap is_pending at)
    ∙ subst (λ l. is_pending (slice_get l low) ≡ true) v
    (f.there (subst (λ (l : List Place). low < length l) (sym v) lt))) c.strike.ensures.turns
    c.strike.ensures.within c.strike.ensures.shorter)
