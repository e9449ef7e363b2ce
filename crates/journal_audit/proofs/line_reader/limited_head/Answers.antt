use Rattle.std.proofs.Common.{◌∙◌, sym}
use Rattle.journal_audit.proofs.Heads.{limits_is}
use Rattle.journal_audit.proofs.line_reader.limited_head.Goals as goal

pub returns-then-is_head-clause-within : goal.returns-then-is_head-clause-within
returns-then-is_head-clause-within c = limits_is c.args.workers c.args.drivers c.args.paths (sym c.is_head.ensures ∙ c.if-is_head.true)
