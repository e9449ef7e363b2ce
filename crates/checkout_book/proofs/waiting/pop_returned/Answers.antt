use Rattle.std.proofs.Common.{◌≡◌, true, false, Some, ap, ◌∙◌}
use Rattle.std.specs.Prelude.{◌-◌, slice_get}
use Rattle.std.proofs.lemmas.Option.{slice_get-get_or}
use Rattle.checkout_book.proofs.Keeping.{passed_over, lowest_popped, popped_within}
use Rattle.checkout_book.proofs.waiting.pop_returned.Goals as goal

pub returns-then-flags-path-clause-some : goal.returns-then-flags-path-clause-some
returns-then-flags-path-clause-some c =
    let i = c.loop-key.invariant.0 in
    let k = c.in-Some.key in
    let flags = c.args.flags.now in
    let order = c.in-Some.ensures.heap_order i.ordered in
    let lt = popped_within flags c.args.next _ _ k i c.in-Some.ensures.permutation in
    let flag : slice_get flags (4294967295 - k) ≡ Some true = slice_get-get_or flags (4294967295 - k) false lt ∙ ap
    (λ b. Some b) c.if-flags-path.true in
    let low = lowest_popped flags c.args.next _ _ k i c.in-Some.ensures.permutation order.0 order.1 flag in
    (low.within, low.lowest, low.kept)

pub loop-key-preserved : goal.loop-key-preserved
loop-key-preserved c =
    let i = c.loop-key.invariant.0 in
    let k = c.in-Some.key in
    let flags = c.args.flags.now in
    let order = c.in-Some.ensures.heap_order i.ordered in
    let lt = popped_within flags c.args.next _ _ k i c.in-Some.ensures.permutation in
    let flag : slice_get flags (4294967295 - k) ≡ Some false = slice_get-get_or flags (4294967295 - k) false lt ∙ ap
    (λ b. Some b) c.if-flags-path.false in (
      passed_over flags c.args.next _ _ k i c.in-Some.ensures.permutation order.0 flag,
      c.pop.ensures.capacity ∙ c.loop-key.invariant.1,
    )
