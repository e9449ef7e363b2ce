use Rattle.std.proofs.Common.{◌≡◌, ◌<◌, ◌≤◌, ℕ, false, Some, [], sym, ap, ◌∙◌, subst, arith, length, set, length-set}
use Rattle.std.specs.Prelude.{slice_get}
use Rattle.std.specs.BinaryHeap.{heap_items}
use Rattle.checkout_book.specs.Waitings.{IsKept, NoneBelow}
use Rattle.checkout_book.proofs.Keeping.{first_found, looked_on, none_at_end, taken_next}
use Rattle.checkout_book.proofs.waiting.Waiting.take_lowest.Goals as goal

pub invariant_of-self-then-found-len : goal.invariant_of-self-then-found-len
invariant_of-self-then-found-len c =
    let flags = c.self.inside.flags.items in
    let next = c.self.inside.next in
    let found = c.first_from-found.result in
    let n = c.in_default.ensures.none in
    let kept : IsKept flags next [] = subst (λ h. IsKept flags next h) n.1 (subst (λ f. IsKept f next (heap_items
    c.pop_returned.new.returned)) c.as_slice.ensures.value n.0) in
    let before = subst (λ f. (p : ℕ) → next ≤ p → p < found → slice_get f p ≡ Some false) c.as_slice-2.ensures.value
    c.first_from-found.ensures.before in
    let le : found ≤ length flags = omega (
      arith,
      c.first_from-found.ensures.range.1,
      ap length
          c.as_slice-2.ensures.value,
    ) in (
      subst (λ h. IsKept flags found h) (sym n.1) (looked_on flags next found kept le (first_found flags next found
          kept before)),
      omega (arith, c.self.invariant.1, c.pop_returned.ensures.capacity),
    )

pub returns-then-found-len-clause-none : goal.returns-then-found-len-clause-none
returns-then-found-len-clause-none c =
    let flags = c.self.inside.flags.items in
    let next = c.self.inside.next in
    let found = c.first_from-found.result in
    let n = c.in_default.ensures.none in
    let kept : IsKept flags next [] = subst (λ h. IsKept flags next h) n.1 (subst (λ f. IsKept f next (heap_items
    c.pop_returned.new.returned)) c.as_slice.ensures.value n.0) in
    let before = subst (λ f. (p : ℕ) → next ≤ p → p < found → slice_get f p ≡ Some false) c.as_slice-2.ensures.value
    c.first_from-found.ensures.before in
    let end : found ≡ length flags = omega (arith, c.if-found-len.true, c.len.ensures, c.self.inside.flags.ok.0) in
    let none = none_at_end flags (subst (λ k. NoneBelow flags k) end (first_found flags next found kept before)) in
    (c.self.view_is, λ p b at. none p b (ap (λ l. slice_get l p) c.self.view_is ∙ at))

pub invariant_of-self-2 : goal.invariant_of-self-2
invariant_of-self-2 c =
    let flags = c.self.inside.flags.items in
    let next = c.self.inside.next in
    let found = c.first_from-found.result in
    let n = c.in_default.ensures.none in
    let kept : IsKept flags next [] = subst (λ h. IsKept flags next h) n.1 (subst (λ f. IsKept f next (heap_items
    c.pop_returned.new.returned)) c.as_slice.ensures.value n.0) in
    let before = subst (λ f. (p : ℕ) → next ≤ p → p < found → slice_get f p ≡ Some false) c.as_slice-2.ensures.value
    c.first_from-found.ensures.before in
    let lt : found < length flags = omega (
      arith,
      c.if-found-len.false,
      c.first_from-found.ensures.range.1,
      ap length
          c.as_slice-2.ensures.value,
      c.len.ensures,
      c.self.inside.flags.ok.0,
    ) in (
      subst (λ h. IsKept (set flags found false) found h) (sym n.1) (taken_next flags next found kept lt (first_found
          flags next found kept before)),
      omega (arith, length-set flags found false, c.self.invariant.1, c.pop_returned.ensures.capacity),
    )

pub returns-clause-some : goal.returns-clause-some
returns-clause-some c =
    let flags = c.self.inside.flags.items in
    let next = c.self.inside.next in
    let found = c.first_from-found.result in
    let n = c.in_default.ensures.none in
    let kept : IsKept flags next [] = subst (λ h. IsKept flags next h) n.1 (subst (λ f. IsKept f next (heap_items
    c.pop_returned.new.returned)) c.as_slice.ensures.value n.0) in
    let before = subst (λ f. (p : ℕ) → next ≤ p → p < found → slice_get f p ≡ Some false) c.as_slice-2.ensures.value
    c.first_from-found.ensures.before in
    let lt : found < length c.as_slice-2.result.now = omega (
      arith,
      c.if-found-len.false,
      c.first_from-found.ensures.range.1,
      ap length c.as_slice-2.ensures.value,
      c.len.ensures,
      c.self.inside.flags.ok.0,
    ) in
    let same = c.as_slice-2.ensures.value ∙ c.self.view_is in
    let none = first_found flags next found kept before in (
      (
        ap (λ l. slice_get l found) (sym same) ∙ c.first_from-found.ensures.found lt,
        λ p b l at. none p b l (ap (λ f. slice_get f p) c.self.view_is ∙ at),
      ),
      ap (λ f. set f found false) c.self.view_is,
    )
