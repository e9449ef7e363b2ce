use Rattle.std.proofs.Common.{sym, ◌∙◌}
use Rattle.wild_match.proofs.Forms.{name_is, ending_is, in_name}
use Rattle.wild_match.proofs.compiled.name_form.Goals as goal

pub returns-then-plain-pattern : goal.returns-then-plain-pattern
returns-then-plain-pattern c = name_is c.args.pattern.now c.requires (sym c.plain_len-plain.ensures.value ∙ c.if-plain-pattern.true)

pub returns-then-is_ending : goal.returns-then-is_ending
returns-then-is_ending c = ending_is c.args.pattern.now c.requires (sym c.is_ending.ensures ∙ c.if-is_ending.true)

pub returns-else-is_ending : goal.returns-else-is_ending
returns-else-is_ending c = in_name c.args.pattern.now c.known_of.result c.requires c.known_of.ensures
