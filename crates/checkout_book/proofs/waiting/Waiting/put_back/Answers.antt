use Rattle.std.proofs.Common.{◌≡◌, false, Some, IsOk, length-set, true, ap, ◌∙◌, subst, arith}
use Rattle.std.specs.Prelude.{slice_get}
use Rattle.checkout_book.proofs.Keeping.{came_back, comes_later, fewer_back}
use Rattle.checkout_book.proofs.waiting.Waiting.put_back.Goals as goal

pub invariant_of-self : goal.invariant_of-self
invariant_of-self c =
    let i = c.self.invariant in
    let flags = c.self.inside.flags.items in (
      comes_later flags _ _ c.args.path i.0 (omega (arith, c.if-path-self.true)),
      omega (arith, length-set flags c.args.path true, i.1),
    )

pub unreachable-requires : goal.unreachable-requires
unreachable-requires c =
    let i = c.self.invariant in
    let flags = c.self.inside.flags.items in
    let p = c.args.path in
    let clear : slice_get flags p ≡ Some false = ap (λ l. slice_get l p) c.self.view_is ∙ c.requires in
    let fewer = fewer_back flags c.self.inside.next _ c.args.path i.0 c.if-path-self.false clear in
    let ok = c.push.ensures.succeeds (omega (arith, fewer, i.1, c.self.inside.returned.data.ok.0)) in
    let err = subst IsOk c.in_default.is ok in
    absurd (cc (err))

pub invariant_of-self-2 : goal.invariant_of-self-2
invariant_of-self-2 c =
    let i = c.self.invariant in
    let flags = c.self.inside.flags.items in
    let p = c.args.path in
    let clear : slice_get flags p ≡ Some false = ap (λ l. slice_get l p) c.self.view_is ∙ c.requires in
    let e = c.in-Ok.ensures in (
      came_back flags _ _ _ _ c.args.path i.0 e.permutation (e.heap_order i.0.ordered) (omega (
        arith,
        c.ranges.path.fits,
      )) (omega (arith, c.if-path-self.false)) clear,
      omega (arith, length-set flags c.args.path true, i.1, e.capacity),
    )
