use Rattle.std.proofs.Common.{sym}
use Rattle.eol_convert.proofs.Usual.{is_lf_text-usual}
use Rattle.eol_convert.proofs.looks.is_lf_text.Goals as goal

pub returns-then-has_none : goal.returns-then-has_none
returns-then-has_none c = sym (is_lf_text-usual c.args.content.now (c.has_none.ensures.0 c.if-has_none.true))
