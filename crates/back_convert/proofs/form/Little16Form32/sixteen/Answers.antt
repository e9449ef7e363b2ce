use Rattle.back_convert.proofs.Blocks.{little16_block}
use Rattle.back_convert.proofs.form.Little16Form32.sixteen.Goals as goal

pub returns : goal.returns
returns c = little16_block c.args.block.now c.told-block c.if-bytes-ne0.false
