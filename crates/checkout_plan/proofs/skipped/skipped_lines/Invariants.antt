use Rattle.std.proofs.Common.{◌≡◌, ◌+◌, ◌-◌, ◌^◌, min, take}
use Rattle.std.specs.List.{sum_by}
use Rattle.checkout_plan.specs.AttributeFiles.{skipped_in, skipped_at}
use Rattle.checkout_plan.proofs.skipped.skipped_lines.Given as goal

abbrev pub invariant-loop-at : goal.invariant-loop-at
invariant-loop-at l = l.lines ≡ min (skipped_in l.files.info + sum_by skipped_at (take l.at-index l.folders)) (2 ^ 64 - 1)
