use Rattle.rehearsal_numbers.proofs.Totals.{block_lines_right}
use Rattle.rehearsal_numbers.proofs.laws.block_lines_are_right.Goals as goal

pub returns : goal.returns
returns c = block_lines_right c.lines_are_right.ensures c.blocks_are_alike.ensures
