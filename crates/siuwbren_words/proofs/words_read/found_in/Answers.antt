use Rattle.std.proofs.Common.{◌≡◌, true, sym, subst}
use Rattle.clap.specs.Words.{App, is_simple_and_free}
use Rattle.siuwbren_words.proofs.Found.{finds_in}
use Rattle.siuwbren_words.proofs.Simple.{siuwbren_simple}
use Rattle.siuwbren_words.proofs.words_read.found_in.Goals as goal

pub matches_in-requires : goal.matches_in-requires
matches_in-requires c = subst (λ (a : App). is_simple_and_free a ≡ true) (sym c.in-Ok.ensures) siuwbren_simple

pub returns-in-Ok : goal.returns-in-Ok
returns-in-Ok c = finds_in _ _ _ _ c.in-Ok.ensures c.matches_in.ensures
