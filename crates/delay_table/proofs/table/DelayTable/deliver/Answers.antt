use Rattle.std.proofs.Common.{◌≡◌, ◌+◌, ℕ, suc, List, Some, sym, ap, ◌∙◌, subst, arith, drop, vec_capacity}
use Rattle.std.specs.Prelude.{slice_get, slice_set}
use Rattle.delay_table.specs.Table.{Table, with_place}
use Rattle.delay_table.specs.Fields.{IsKept}
use Rattle.delay_table.specs.declared.place.Place.TheVariants.{Listed, Done}
use Rattle.delay_table.proofs.Kept.{kept_delivered, first_turn}
use Rattle.delay_table.proofs.Turns.{drop_next, there_is}
use Rattle.delay_table.proofs.Places.{in_range}
use Rattle.delay_table.proofs.table.DelayTable.deliver.Goals as goal

pub index_mut-requires : goal.index_mut-requires
index_mut-requires c =
    let p = c.in_ok-place.field-0.now in
    let at = subst (λ l. slice_get l c.self.inside.delivered ≡ Some p) c.deref.ensures.value
    (there_is c.deref.result.now c.self.inside.delivered p c.in_ok-place.ensures.lookup.0
    c.in_ok-place.ensures.lookup.1) in
    let f = first_turn _ _ _ _ _ _ c.self.invariant p at in
    omega (arith, in_range c.self.inside.places.items p Listed f.2, c.self.inside.places.ok.0)

pub invariant_of-self : goal.invariant_of-self
invariant_of-self c =
    let p = c.in_ok-place.field-0.now in
    let at = subst (λ l. slice_get l c.self.inside.delivered ≡ Some p) c.deref.ensures.value
    (there_is c.deref.result.now c.self.inside.delivered p c.in_ok-place.ensures.lookup.0
    c.in_ok-place.ensures.lookup.1) in
    let f = first_turn _ _ _ _ _ _ c.self.invariant p at in
    let next : suc c.self.inside.delivered ≡ c.self.inside.delivered + 1 = omega arith in
    subst (λ n. IsKept c.self.inside.names.items (slice_set c.self.inside.places.items p Done) c.self.inside.order.items
    (vec_capacity c.self.inside.order) n c.self.inside.lowest) next
    (kept_delivered _ _ _ _ _ _ c.self.invariant p f.0 f.1 f.2 f.3)

pub returns : goal.returns
returns c =
    let p = c.in_ok-place.field-0.now in
    let at = subst (λ l. slice_get l c.self.inside.delivered ≡ Some p) c.deref.ensures.value
    (there_is c.deref.result.now c.self.inside.delivered p c.in_ok-place.ensures.lookup.0
    c.in_ok-place.ensures.lookup.1) in
    let f = first_turn _ _ _ _ _ _ c.self.invariant p at in
    let next : c.self.inside.delivered + 1 ≡ suc c.self.inside.delivered = omega arith in
    let turns = ap (λ n. drop n c.self.inside.order.items) next
    ∙ drop_next c.self.inside.delivered c.self.inside.order.items p f.0 f.1 in
    let made : List ℕ → Table =
    λ l. record {
      names = c.self.inside.names.items;
      places = slice_set c.self.inside.places.items p Done;
      turns =
          l;
    } in (
      f.0,
      ap (λ t. t.turns) (sym c.self.view_is) ∙ f.1,
      ap made turns
          ∙ ap (λ (t : Table). record (with_place p Done t) { turns = f.0 }) c.self.view_is,
    )
