use Rattle.attr_line.proofs.Quoted.{unquoted-within}
use Rattle.attr_line.proofs.line.front_of.Goals as goal

pub split_at-requires : goal.split_at-requires
split_at-requires c =
    unquoted-within c.args.text.now c.in-Ok.pattern c.in-Ok.len c.in-Ok.ensures
