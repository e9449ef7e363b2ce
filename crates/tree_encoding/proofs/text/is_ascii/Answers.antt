use Rattle.std.proofs.Common.{arith}
use Rattle.tree_encoding.proofs.Ascii.{none_set}
use Rattle.tree_encoding.proofs.text.is_ascii.Goals as goal

pub returns : goal.returns
returns c = none_set 16 c.args.bytes.now c.told-bytes (omega arith)
