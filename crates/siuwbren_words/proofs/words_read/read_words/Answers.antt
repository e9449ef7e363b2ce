use Rattle.siuwbren_words.proofs.Found.{gives_fault}
use Rattle.siuwbren_words.proofs.words_read.read_words.Goals as goal

pub returns-in-Err : goal.returns-in-Err
returns-in-Err c = gives_fault _ _ c.in-Err.ensures
