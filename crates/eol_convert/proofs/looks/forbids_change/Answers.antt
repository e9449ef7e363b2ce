use Rattle.std.proofs.Common.{◌∙◌}
use Rattle.eol_convert.specs.Content.{forbids_change}
use Rattle.eol_convert.proofs.Marks.{is_some-first}
use Rattle.eol_convert.proofs.looks.forbids_change.Goals as goal

pub returns : goal.returns
returns c = c.is_some.ensures ∙ is_some-first forbids_change c.args.content.now c.memchr2.result c.memchr2.ensures
