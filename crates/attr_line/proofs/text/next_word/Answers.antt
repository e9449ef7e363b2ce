use Rattle.std.proofs.Common.{◌≡◌, ◌<◌, length, arith}
use Rattle.std.proofs.lemmas.Grind.{common_steps}
use Rattle.std.proofs.lemmas.List.{nil_from_length}
use Rattle.attr_line.specs.Text.{behind_gaps}
use Rattle.attr_line.proofs.Cuts.{next_word, next_shorter, no_word}
use Rattle.attr_line.proofs.text.next_word.Goals as goal

pub returns-then-is_empty-clause-value : goal.returns-then-is_empty-clause-value
returns-then-is_empty-clause-value c =
    let none : length c.behind_gaps-text.result.now ≡ 0 = grind (arith, common_steps) in
    no_word c.args.text.now (nil_from_length (behind_gaps c.args.text.now) (rw c.behind_gaps-text.ensures.value at none))

pub returns-clause-value : goal.returns-clause-value
returns-clause-value c =
    let some : 0 < length c.behind_gaps-text.result.now = grind (arith, common_steps) in
    rw (c.split_at.ensures.front, c.split_at.ensures.back, c.len_to.ensures.value, c.behind_gaps-text.ensures.value)
    (next_word c.args.text.now (rw c.behind_gaps-text.ensures.value at some))

pub returns-clause-shorter : goal.returns-clause-shorter
returns-clause-shorter c =
    let some : 0 < length c.behind_gaps-text.result.now = grind (arith, common_steps) in
    rw (c.split_at.ensures.back, c.len_to.ensures.value, c.behind_gaps-text.ensures.value)
    (next_shorter c.args.text.now (rw c.behind_gaps-text.ensures.value at some))
