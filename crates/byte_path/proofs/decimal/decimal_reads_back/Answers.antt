use Rattle.std.proofs.Common.{arith}
use Rattle.byte_path.proofs.Decimals.{decimal_within-decimal}
use Rattle.byte_path.proofs.decimal.decimal_reads_back.Goals as goal

pub returns : goal.returns
returns c = decimal_within-decimal c.args.number c.args.most (omega arith) c.requires
