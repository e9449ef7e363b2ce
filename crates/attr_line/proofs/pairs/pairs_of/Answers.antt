use Rattle.std.proofs.Common.{◌≡◌, ◌++◌, ◌∷◌, [], true, sym, ◌∙◌}
use Rattle.attr_line.specs.Pairs.{pair_at}
use Rattle.attr_line.proofs.Taking.{pairs-more}
use Rattle.attr_line.proofs.pairs.pairs_of.Goals as goal

pub words-preserved : goal.words-preserved
words-preserved c =
    let good : c.in_ok-push_pair.field-0 ≡ true = c.if-not-branch.false in
    let pushed : c.push_pair.new.pairs.items ≡ c.words.pairs.items ++ pair_at c.in-Some.word.now ∷ [] = rw good at c.in_ok-push_pair.ensures.pairs in
    pairs-more c.args.text.now c.in-Some.word.now c.words.rest.now c.in-Some.behind.now c.words.pairs.items c.push_pair.new.pairs.items
    c.words.invariant c.in-Some.ensures.value (sym c.in_ok-push_pair.ensures.name ∙ good) pushed
