use Rattle.back_convert.proofs.Blocks.{little32_block}
use Rattle.back_convert.proofs.form.Little32Form64.sixteen.Goals as goal

pub returns : goal.returns
returns c = little32_block c.args.block.now c.told-block c.if-bytes-ne0.false
