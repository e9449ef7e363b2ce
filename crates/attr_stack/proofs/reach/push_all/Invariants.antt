use Rattle.std.proofs.Common.{◌≡◌, ◌++◌}
use Rattle.attr_stack.specs.Pairs.{file_pairs, pairs_before}
use Rattle.attr_stack.specs.Seen.{from_end}
use Rattle.attr_stack.proofs.reach.push_all.Given as goal

abbrev pub invariant-loop-place : goal.invariant-loop-place
invariant-loop-place l =
    from_end l.pending.items ≡ pairs_before l.folders l.path l.place ++ (file_pairs l.path l.fn.files.base ++ from_end l.fn.pending.items)
