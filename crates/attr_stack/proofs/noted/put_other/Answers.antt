use Rattle.std.proofs.Common.{cond, Some, ◌∙◌, ap}
use Rattle.std.specs.Str.{bytes_eq}
use Rattle.std.proofs.lemmas.Map.Text.{btree_map_updates_str}
use Rattle.attr_stack.specs.Seen.{other_at}
use Rattle.attr_stack.proofs.Maps.{others-put}
use Rattle.attr_stack.proofs.noted.put_other.Goals as goal

pub returns : goal.returns
returns c = λ name.
    others-put c.args.others.now c.insert.new.self c.as_slice.result.now _ (btree_map_updates_str c.as_slice.result.now c.args.others.now c.insert.new.self _ c.in_ok-insert.ensures.updates) name
    ∙ ap (λ n. cond (bytes_eq n name) (Some c.args.pair.now.state) (other_at c.args.others.now name)) c.as_slice.ensures
