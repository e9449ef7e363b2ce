use Rattle.siuwbren_words.proofs.Found.{finds_matches, finds_fault, left_holds}
use Rattle.siuwbren_words.proofs.words_read.matches_in.Goals as goal

pub returns-in-Ok : goal.returns-in-Ok
returns-in-Ok c = finds_matches _ _ _ (c.in-Ok.ensures.kinds c.requires) (c.in-Ok.ensures.matches (left_holds _ _ c.requires)).1

pub returns-in-Err : goal.returns-in-Err
returns-in-Err c = finds_fault _ _ c.in-Err.error _ (c.in-Err.ensures.kinds c.requires) c.fault_of.ensures
