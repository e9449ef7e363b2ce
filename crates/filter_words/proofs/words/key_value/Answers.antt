use Rattle.filter_words.proofs.Cutting.{cuts}
use Rattle.filter_words.proofs.words.key_value.Goals as goal

pub returns : goal.returns
returns c = cuts c.args.line.now c.without_end.result.now c.split_once_str.result c.without_end.ensures c.split_once_str.ensures
