use Rattle.filter_words.proofs.Names.{expected_then, expected_else}
use Rattle.filter_words.proofs.listing.is_expected.Goals as goal

pub returns-then-has_slice : goal.returns-then-has_slice
returns-then-has_slice c =
    expected_then c.args.delayed.now c.args.listed.now c.args.name.now c.has_slice.result
    c.has_slice-then-has_slice.result c.has_slice.ensures c.has_slice-then-has_slice.ensures c.if-has_slice.true

pub returns-else-has_slice : goal.returns-else-has_slice
returns-else-has_slice c =
    expected_else c.args.delayed.now c.args.listed.now c.args.name.now c.has_slice.result c.has_slice.ensures
    c.if-has_slice.false
