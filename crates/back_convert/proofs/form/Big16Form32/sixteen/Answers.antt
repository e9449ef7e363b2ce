use Rattle.back_convert.proofs.Blocks.{big16_block}
use Rattle.back_convert.proofs.form.Big16Form32.sixteen.Goals as goal

pub returns : goal.returns
returns c = big16_block c.args.block.now c.told-block c.if-bytes-ne0.false
