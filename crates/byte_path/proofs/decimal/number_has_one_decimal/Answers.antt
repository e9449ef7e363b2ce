use Rattle.std.proofs.Common.{arith}
use Rattle.byte_path.proofs.Decimals.{decimal_within-is}
use Rattle.byte_path.proofs.decimal.number_has_one_decimal.Goals as goal

pub returns : goal.returns
returns c = λ number is. decimal_within-is c.args.text.now c.args.most number (omega arith) is
