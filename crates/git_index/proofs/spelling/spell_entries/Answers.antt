use Rattle.std.proofs.Common.{◌∙◌}
use Rattle.std.proofs.lemmas.Result.{IfOk-weaker}
use Rattle.git_index.proofs.SpelledWhole.{plain_text-is}
use Rattle.git_index.proofs.spelling.spell_entries.Goals as goal

pub returns-clause-value : goal.returns-clause-value
returns-clause-value c = IfOk-weaker c.spell_stat_index.result _ _ (λ text same. same ∙ plain_text-is c.args.entries.now) c.spell_stat_index.ensures.value
