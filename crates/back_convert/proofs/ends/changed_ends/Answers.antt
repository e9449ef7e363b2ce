use Rattle.std.proofs.Common.{sym, ◌∙◌}
use Rattle.back_convert.proofs.Lines.{ends-none}
use Rattle.back_convert.proofs.ends.changed_ends.Goals as goal

pub returns-then-not-has_crlf : goal.returns-then-not-has_crlf
returns-then-not-has_crlf c = ends-none c.args.content.now c.args.action c.args.old_crlf (sym c.has_crlf.ensures ∙ c.if-not-has_crlf.true)
