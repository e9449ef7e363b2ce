use Rattle.std.proofs.Common.{List, ℕ, sym, subst, arith}
use Rattle.std.proofs.lemmas.Grind.{common_steps}
use Rattle.git_index.specs.Spelling.{IsIndexText}
use Rattle.tree_cache.proofs.Extended.{same_entries}
use Rattle.tree_cache.proofs.extension.with_tree_cache.Goals as goal

pub returns-clause-same : goal.returns-clause-same
returns-clause-same c = λ entries is. subst (λ (text : List ℕ). IsIndexText text entries) (sym (grind (arith, common_steps))) (same_entries c.args.index.now c.args.cache.now entries c.requires is)
