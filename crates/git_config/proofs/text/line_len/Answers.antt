use Rattle.std.proofs.Common.{◌∙◌}
use Rattle.git_config.proofs.LineEnds.{line_end_is, line_end-within}
use Rattle.git_config.proofs.text.line_len.Goals as goal

pub returns-clause-value : goal.returns-clause-value
returns-clause-value c = c.unwrap_or.ensures ∙ line_end_is c.args.text.now c.memchr.result c.memchr.ensures

pub returns-clause-within : goal.returns-clause-within
returns-clause-within c = rw c.unwrap_or.ensures (line_end-within c.args.text.now c.memchr.result c.memchr.ensures)
