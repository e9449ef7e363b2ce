use Rattle.std.proofs.Common.{◌∙◌, ◌==◌, ap}
use Rattle.checkout_core.proofs.Counts.{none_named}
use Rattle.checkout_core.proofs.state.State.none_named.Goals as goal

pub returns : goal.returns
returns c = ap (λ n. n == 0) c.named_count.ensures ∙ none_named c.args.driver c.args.self.now.paths
