-- What the instructions that are left make of the content so far, all of them make of what was there at first.
use Rattle.std.proofs.Common.{ℕ, ◌≤◌, List, length, vec_len}
use Rattle.git_objects.specs.Delta.{Makes}
use Rattle.git_objects.proofs.delta.add_all.Given as goal

abbrev pub invariant-loop-rest : goal.invariant-loop-rest
invariant-loop-rest l = record {
  within : vec_len l.content ≤ l.limit;
  back : (n : ℕ) (after : List ℕ) → Makes l.base n l.rest l.content.items after →
      (m : ℕ) × Makes l.base m l.delta l.fn.content.items after;
}

abbrev pub decreases-loop-rest : goal.decreases-loop-rest
decreases-loop-rest l = length l.rest
