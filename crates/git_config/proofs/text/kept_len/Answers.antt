use Rattle.std.proofs.Common.{◌≡◌, ◌+◌, true, false, drop, rules}
use Rattle.byte_path.specs.Front.{begins}
use Rattle.git_config.specs.Text.{is_line_end}
use Rattle.git_config.proofs.LineEnds.{cr_dropped, cr_kept}
use Rattle.git_config.proofs.text.kept_len.Goals as goal

pub returns-then-begins_line_end-clause-value : goal.returns-then-begins_line_end-clause-value
returns-then-begins_line_end-clause-value c =
    let before : begins is_line_end (drop (c.args.cr + 1) c.args.text.now) ≡ true = search rules in
    cr_dropped c.args.text.now c.args.cr c.requires before

pub returns-clause-value : goal.returns-clause-value
returns-clause-value c =
    let before : begins is_line_end (drop (c.args.cr + 1) c.args.text.now) ≡ false = search rules in
    cr_kept c.args.text.now c.args.cr c.requires before
