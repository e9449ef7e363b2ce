use Rattle.back_convert.proofs.Blocks.{big32_block}
use Rattle.back_convert.proofs.form.Big32Form64.sixteen.Goals as goal

pub returns : goal.returns
returns c = big32_block c.args.block.now c.told-block c.if-bytes-ne0.false
