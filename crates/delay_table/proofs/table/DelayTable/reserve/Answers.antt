use Rattle.std.proofs.Common.{◌≡◌, ◌≤◌, ℕ, List, sym, ap, ◌∙◌, subst, arith, length, map, vec_capacity}
use Rattle.std.specs.Prelude.{replicate}
use Rattle.delay_table.specs.Table.{Table}
use Rattle.delay_table.specs.Fields.{IsKept}
use Rattle.delay_table.specs.declared.place.Place.{Place}
use Rattle.delay_table.specs.declared.place.Place.TheVariants.{Idle}
use Rattle.delay_table.proofs.Kept.{kept_idle, all_idle}
use Rattle.delay_table.proofs.table.DelayTable.reserve.Goals as goal

pub invariant_of-result : goal.invariant_of-result
invariant_of-result c =
    let names = c.args.names.items in
    let count : c.loop.counter ≡ length names =
    omega (
      arith,
      c.loop-test.false,
      c.loop.auto.counter-end,
      c.loop.invariant.end,
      c.args.names.ok.0,
      c.len-end.ensures,
    ) in
    let places = c.loop.invariant.places ∙ ap (λ n. replicate n Idle) count in
    let room : length names ≤ vec_capacity c.in_ok-order.order =
    omega (arith, c.in_ok-order.ensures.capacity, c.len-2.ensures, c.args.names.ok.0) in
    subst (λ ps. IsKept names ps c.in_ok-order.order.items (vec_capacity c.in_ok-order.order) 0 0) (sym places)
    (subst (λ o. IsKept names (replicate (length names) Idle) o (vec_capacity c.in_ok-order.order) 0 0)
    (sym c.in_ok-order.ensures.items)
    (kept_idle names (vec_capacity c.in_ok-order.order) c.requires.rising c.requires.few room))

pub returns : goal.returns
returns c =
    let names = c.args.names.items in
    let count : c.loop.counter ≡ length names =
    omega (
      arith,
      c.loop-test.false,
      c.loop.auto.counter-end,
      c.loop.invariant.end,
      c.args.names.ok.0,
      c.len-end.ensures,
    ) in
    let places = c.loop.invariant.places ∙ (ap (λ n. replicate n Idle) count ∙ all_idle names) in
    let made : List Place → List ℕ → Table = λ ps ts. record { names = names; places = ps; turns = ts } in
    ap (λ ps. made ps c.in_ok-order.order.items) places ∙ ap (made (map (λ n. Idle) names)) c.in_ok-order.ensures.items
