use Rattle.core_laws.proofs.CutTalks.{talk_history}
use Rattle.core_laws.proofs.laws.a_cut_talk_has_a_history.Goals as goal

pub returns : goal.returns
returns c starts workers drivers d noted t below there run = talk_history starts workers drivers d below noted t there
    run
