use Rattle.std.proofs.Common.{sym, ◌∙◌}
use Rattle.tree_encoding.proofs.Ascii.{front_is_not}
use Rattle.tree_encoding.proofs.ascii_test.is_ascii.Goals as goal

pub returns-then-not-is_ascii_chunk : goal.returns-then-not-is_ascii_chunk
returns-then-not-is_ascii_chunk c =
    sym (c.chunks.invariant ∙ front_is_not c.chunks.rest.now c.in-Some.chunk.now 64 c.in-Some.ensures.cases.same (sym c.if-not-is_ascii_chunk.ensures))
