use Rattle.std.proofs.Common.{◌≡◌, ◌++◌, true, length}
use Rattle.std.specs.Char.{is_ascii}
use Rattle.std.specs.List.{flat_map, list_all}
use Rattle.tree_encoding.proofs.text.push_sixteens.Given as goal

abbrev pub invariant-ascii : goal.invariant-ascii
invariant-ascii g l = record {
  all : list_all is_ascii l.rest ≡ true;
  same : l.out.items ++ flat_map g.F.Form.bytes_of l.rest ≡ l.fn.out.items ++ flat_map g.F.Form.bytes_of l.ascii;
}

abbrev pub decreases-ascii : goal.decreases-ascii
decreases-ascii g l = length l.rest
