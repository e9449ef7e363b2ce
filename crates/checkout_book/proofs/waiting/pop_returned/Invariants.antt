use Rattle.std.specs.Prelude.{◌≡◌}
use Rattle.std.specs.BinaryHeap.{heap_items, heap_len, heap_capacity}
use Rattle.checkout_book.specs.Waitings.{IsKept}
use Rattle.checkout_book.proofs.waiting.pop_returned.Given as goal

abbrev pub invariant-loop-key : goal.invariant-loop-key
invariant-loop-key l = IsKept l.flags l.next (heap_items l.returned)
    × (heap_capacity l.returned ≡ heap_capacity l.fn.returned)

abbrev pub decreases-loop-key : goal.decreases-loop-key
decreases-loop-key l = heap_len l.returned
