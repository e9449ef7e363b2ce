use Rattle.std.proofs.Common.{◌≡◌, length}
use Rattle.std.specs.Char.{is_ascii}
use Rattle.std.specs.List.{list_all}
use Rattle.tree_encoding.proofs.ascii_test.is_ascii.Given as goal

abbrev pub invariant-chunks : goal.invariant-chunks
invariant-chunks l = list_all is_ascii l.bytes ≡ list_all is_ascii l.rest

abbrev pub decreases-chunks : goal.decreases-chunks
decreases-chunks l = length l.rest
