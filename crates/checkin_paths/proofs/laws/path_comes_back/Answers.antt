use Rattle.checkin_paths.proofs.BackAgain.{comes_back}
use Rattle.checkin_paths.proofs.laws.path_comes_back.Goals as goal

pub returns : goal.returns
returns c = comes_back c.args.storing c.args.stored.now c.args.name.now c.args.content.now c.content_comes_back.ensures c.content_has_one_spelling.ensures
