use Rattle.std.proofs.Common.{◌++◌, sym, ◌∙◌, ap}
use Rattle.attr_stack.specs.Pairs.{file_pairs, pairs_ending}
use Rattle.attr_stack.specs.Seen.{from_end}
use Rattle.attr_stack.proofs.Lists.{pairs_before-more}
use Rattle.attr_stack.proofs.reach.push_all.Goals as goal

pub loop-place-preserved : goal.loop-place-preserved
loop-place-preserved c =
    c.in_ok-push_ending.ensures ∙ ap (λ pairs. pairs_ending c.args.folders.now c.args.path.now c.loop-place.place ++ pairs) c.loop-place.invariant
    ∙ sym (pairs_before-more c.args.folders.now c.args.path.now c.loop-place.place
    (file_pairs c.args.path.now c.args.files.now.base ++ from_end c.args.pending.now.items))
