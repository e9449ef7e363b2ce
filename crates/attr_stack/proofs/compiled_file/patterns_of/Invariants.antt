use Rattle.std.proofs.Common.{◌≡◌, length, map, take, vec_len, vec_capacity}
use Rattle.attr_stack.specs.Rows.{row_pattern}
use Rattle.attr_stack.proofs.compiled_file.patterns_of.Given as goal

abbrev pub invariant-loop-row : goal.invariant-loop-row
invariant-loop-row l = record {
  patterns : l.patterns.items ≡ map row_pattern (take l.row-index l.rows);
  len : vec_len l.patterns ≡ l.row-index;
  room : vec_capacity l.patterns ≡ length l.rows;
}
