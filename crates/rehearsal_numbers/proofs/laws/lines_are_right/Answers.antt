use Rattle.rehearsal_numbers.proofs.Totals.{lines_right}
use Rattle.rehearsal_numbers.proofs.laws.lines_are_right.Goals as goal

pub returns : goal.returns
returns c =
    lines_right c.files_have_an_index.ensures c.attributes_are_right.ensures c.one_reading.ensures c.spells.ensures
    c.equal_outputs_give_equal_talks.ensures c.a_path_gets_one_content.ensures
