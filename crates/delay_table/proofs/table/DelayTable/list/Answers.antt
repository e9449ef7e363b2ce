use Rattle.std.proofs.Common.{◌≡◌, ◌∷◌, ◌++◌, ◌<◌, [], ℕ, List, Some, sym, ap, ◌∙◌, subst, arith, length, drop}
use Rattle.std.proofs.Common.{vec_capacity}
use Rattle.std.specs.Prelude.{slice_get, slice_set}
use Rattle.std.proofs.lemmas.Option.{slice_get_within}
use Rattle.delay_table.specs.Table.{Table, with_place}
use Rattle.delay_table.specs.Fields.{IsKept}
use Rattle.delay_table.specs.declared.place.Place.TheVariants.{Delayed, Listed}
use Rattle.delay_table.proofs.Kept.{kept_listed, some_left}
use Rattle.delay_table.proofs.Names.{one_place}
use Rattle.delay_table.proofs.Places.{read_at, not_at}
use Rattle.delay_table.proofs.Turns.{drop_more}
use Rattle.delay_table.proofs.table.DelayTable.list.Goals as goal

pub returns-then-not-is_delayed : goal.returns-then-not-is_delayed
returns-then-not-is_delayed c =
    let p = c.in_ok-place.place in
    let found = subst (λ ns. slice_get ns p ≡ Some c.args.name.now) c.deref.ensures.value c.in_ok-place.ensures in (
      λ q is.
          let named = ap (λ t. slice_get t.names q) c.self.view_is ∙ is.0 in
          let at = ap (λ t. slice_get t.places q) c.self.view_is ∙ is.1 in
          let same = one_place c.self.inside.names.items c.self.invariant.rising c.args.name.now p q found named in
          not_at c.self.inside.places.items p c.index.result.now Delayed c.index.ensures c.if-not-is_delayed.ensures
          (subst (λ (n : ℕ). slice_get c.self.inside.places.items n ≡ Some Delayed) same at),
      λ i. c.args.self.now,
    )

pub index_mut-requires : goal.index_mut-requires
index_mut-requires c =
    let p = c.in_ok-place.place in
    let found = subst (λ ns. slice_get ns p ≡ Some c.args.name.now) c.deref.ensures.value c.in_ok-place.ensures in
    let lt = slice_get_within c.self.inside.names.items p c.args.name.now found in
    let same = c.self.invariant.same in
    omega (arith, lt, same, c.self.inside.places.ok.0)

pub overflow_cast-place : goal.overflow_cast-place
overflow_cast-place c =
    let p = c.in_ok-place.place in
    let found = subst (λ ns. slice_get ns p ≡ Some c.args.name.now) c.deref.ensures.value c.in_ok-place.ensures in
    let lt = slice_get_within c.self.inside.names.items p c.args.name.now found in
    let few = c.self.invariant.few in
    omega (arith, lt, few)

pub push_reserved-requires : goal.push_reserved-requires
push_reserved-requires c =
    let p = c.in_ok-place.place in
    let found = subst (λ ns. slice_get ns p ≡ Some c.args.name.now) c.deref.ensures.value c.in_ok-place.ensures in
    let lt = slice_get_within c.self.inside.names.items p c.args.name.now found in
    let same = c.self.invariant.same in
    let within : p < length c.self.inside.places.items = omega (arith, lt, same) in
    let at = read_at c.self.inside.places.items p c.index.result.now Delayed within c.index.ensures
    c.if-not-is_delayed.ensures in
    let some = some_left _ _ _ _ _ _ c.self.invariant p at in
    omega (arith, some, c.self.inside.order.ok.0)

pub overflow_cast-result : goal.overflow_cast-result
overflow_cast-result c =
    let p = c.in_ok-place.place in
    let found = subst (λ ns. slice_get ns p ≡ Some c.args.name.now) c.deref.ensures.value c.in_ok-place.ensures in
    let lt = slice_get_within c.self.inside.names.items p c.args.name.now found in
    let few = c.self.invariant.few in
    omega (arith, lt, few)

pub invariant_of-self : goal.invariant_of-self
invariant_of-self c =
    let p = c.in_ok-place.place in
    let found = subst (λ ns. slice_get ns p ≡ Some c.args.name.now) c.deref.ensures.value c.in_ok-place.ensures in
    let lt = slice_get_within c.self.inside.names.items p c.args.name.now found in
    let same = c.self.invariant.same in
    let within : p < length c.self.inside.places.items = omega (arith, lt, same) in
    let at = read_at c.self.inside.places.items p c.index.result.now Delayed within c.index.ensures
    c.if-not-is_delayed.ensures in
    subst (λ room. IsKept c.self.inside.names.items (slice_set c.self.inside.places.items p Listed)
    c.push_reserved.new.self.items room c.self.inside.delivered c.self.inside.lowest)
    (sym c.push_reserved.ensures.capacity)
    (subst (λ order. IsKept c.self.inside.names.items (slice_set c.self.inside.places.items p Listed) order
    (vec_capacity c.self.inside.order) c.self.inside.delivered c.self.inside.lowest)
    (sym c.push_reserved.ensures.items)
    (kept_listed _ _ _ _ _ _ c.self.invariant p at))

pub returns : goal.returns
returns c =
    let p = c.in_ok-place.place in
    let found = subst (λ ns. slice_get ns p ≡ Some c.args.name.now) c.deref.ensures.value c.in_ok-place.ensures in
    let lt = slice_get_within c.self.inside.names.items p c.args.name.now found in
    let same = c.self.invariant.same in
    let within : p < length c.self.inside.places.items = omega (arith, lt, same) in
    let at = read_at c.self.inside.places.items p c.index.result.now Delayed within c.index.ensures
    c.if-not-is_delayed.ensures in
    let turns = ap (drop c.self.inside.delivered) c.push_reserved.ensures.items
    ∙ drop_more c.self.inside.delivered c.self.inside.order.items (p ∷ []) c.self.invariant.within in
    let made : List ℕ → Table =
    λ l. record {
      names = c.self.inside.names.items;
      places = slice_set c.self.inside.places.items p Listed;
      turns =
          l;
    } in (
      (
        ap (λ t. slice_get t.names p) (sym c.self.view_is) ∙ found,
        ap (λ t. slice_get t.places p) (sym c.self.view_is)
            ∙ at,
      ),
      ap made turns ∙ ap (λ (t : Table). record (with_place p Listed t) { turns = t.turns ++ p ∷ [] }) c.self.view_is,
    )
