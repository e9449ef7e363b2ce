use Rattle.std.proofs.Common.{arith}
use Rattle.back_convert.proofs.Blocks.{block_begins}
use Rattle.back_convert.proofs.text.first_sixteen.Goals as goal

pub split_first_chunk-requires : goal.split_first_chunk-requires
split_first_chunk-requires g c = omega (arith, g.met.F.Form.few)

pub returns : goal.returns
returns g c =
    block_begins g.F.Form.chars g.row.WIDE c.args.bytes.now c.in_ok-block.block.now c.in_ok-ascii.ascii c.in_ok-block.behind.now
    g.met.F.Form.some c.in_ok-ascii.ensures c.in_ok-block.ensures.cases
