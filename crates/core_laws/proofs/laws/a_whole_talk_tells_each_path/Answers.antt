use Rattle.core_laws.proofs.HeardAll.{talk_tells}
use Rattle.core_laws.proofs.laws.a_whole_talk_tells_each_path.Goals as goal

pub returns : goal.returns
returns c d paths items p is has = talk_tells d paths items p is has
