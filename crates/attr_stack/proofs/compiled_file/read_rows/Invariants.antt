use Rattle.std.proofs.Common.{take}
use Rattle.attr_stack.specs.Rows.{rows_pairs}
use Rattle.attr_stack.specs.Search.{Reads}
use Rattle.attr_stack.proofs.compiled_file.read_rows.Given as goal

abbrev pub invariant-loop-place : goal.invariant-loop-place
invariant-loop-place l = Reads l.names (rows_pairs l.path l.compiled.rows.now) l.initial.states.decided (rows_pairs l.path (take l.place l.compiled.rows.now)) l.states.decided
