use Rattle.git_index.proofs.SpelledWhole.{IsSpelledSo}
use Rattle.git_index.proofs.spelling.spell_stat_index.Given as goal

abbrev pub invariant-loop-entry : goal.invariant-loop-entry
invariant-loop-entry l = IsSpelledSo l.fn.wanted l.entries l.stats l.entry-index l.text.items l.path l.rest
