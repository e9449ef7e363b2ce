use Rattle.std.proofs.Common.{◌∙◌, ap}
use Rattle.checkout_core.proofs.Counts.{next_lowest, holds_number}
use Rattle.checkout_core.proofs.state.State.is_next.Goals as goal

pub returns-in-Some-clause-next : goal.returns-in-Some-clause-next
returns-in-Some-clause-next c =
    ap (holds_number c.args.path) c.in-Some.ensures.lowest
    ∙ next_lowest c.args.driver c.args.self.now.paths c.args.path c.args.was c.requires.there c.requires.begun

pub returns-in-None-clause-next : goal.returns-in-None-clause-next
returns-in-None-clause-next c =
    ap (holds_number c.args.path) c.in-None.ensures.lowest
    ∙ next_lowest c.args.driver c.args.self.now.paths c.args.path c.args.was c.requires.there c.requires.begun
