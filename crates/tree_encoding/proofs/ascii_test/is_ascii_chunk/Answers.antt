use Rattle.std.proofs.Common.{arith}
use Rattle.tree_encoding.proofs.Ascii.{none_set}
use Rattle.tree_encoding.proofs.ascii_test.is_ascii_chunk.Goals as goal

pub returns : goal.returns
returns c = none_set 64 c.args.chunk.now c.told-chunk (omega arith)
