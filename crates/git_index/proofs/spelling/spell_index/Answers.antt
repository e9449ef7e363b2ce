use Rattle.git_index.proofs.SpelledWhole.{can_stand}
use Rattle.git_index.proofs.spelling.spell_index.Goals as goal

pub spell_entries-requires : goal.spell_entries-requires
spell_entries-requires c = can_stand c.requires.bytes c.args.entries.now c.requires.index
