use Rattle.std.proofs.Common.{◌≡◌, ◌++◌, length}
use Rattle.std.specs.List.{flat_map}
use Rattle.tree_encoding.proofs.text.push_few_ascii.Given as goal

abbrev pub invariant-bytes : goal.invariant-bytes
invariant-bytes g l = l.out.items ++ flat_map g.F.Form.bytes_of l.rest ≡ l.fn.out.items ++ flat_map g.F.Form.bytes_of l.ascii

abbrev pub decreases-bytes : goal.decreases-bytes
decreases-bytes g l = length l.rest
