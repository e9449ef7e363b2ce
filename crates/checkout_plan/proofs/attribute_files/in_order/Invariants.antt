use Rattle.std.proofs.Common.{◌≡◌, ◌++◌, map}
use Rattle.checkout_plan.specs.Seen.{file_seen, files_seen}
use Rattle.checkout_plan.proofs.attribute_files.in_order.Given as goal

abbrev pub invariant-loop-folder : goal.invariant-loop-folder
invariant-loop-folder l =
    (goal.iterator-loop-folder).can_next l.folder-iterator ×
    (goal.iterator-loop-folder).is_finite l.folder-iterator ×
    (l.listed.items ++ map file_seen l.folder-iterator ≡ files_seen l.fn.files)
