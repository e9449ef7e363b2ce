use Rattle.std.proofs.Common.{sym}
use Rattle.std.proofs.lemmas.List.{drop_all}
use Rattle.attr_stack.proofs.stack.behind.Goals as goal

pub returns-then-path-len : goal.returns-then-path-len
returns-then-path-len c = sym (drop_all c.args.len c.args.path.now c.if-path-len.true)
