use Rattle.std.proofs.Common.{◌≡◌, List, Option, IfOk, map, ap, subst, rules}
use Rattle.std.specs.Option.{unwrap_or}
use Rattle.attr_line.specs.declared.state.AttrState.{AttrState}
use Rattle.attr_line.specs.declared.state.AttrState.TheVariants.{Unspecified}
use Rattle.attr_stack.specs.Decided.{state_of}
use Rattle.attr_stack.specs.Rules.{files_of}
use Rattle.attr_stack.specs.declared.files.AttrFiles.{AttrFiles}
use Rattle.attr_stack.specs.Seen.{said_in}
use Rattle.attr_stack.proofs.Readings.{map-asked}
use Rattle.attr_stack.proofs.stack.AttrStack.states.Goals as goal

pub returns-clause-states : goal.returns-clause-states
returns-clause-states c =
    let same : files_of c.self.inside.rules ≡ c.args.self.now = search rules in
    subst (λ (files : AttrFiles). IfOk c.states_in.result (λ states. states.items ≡ map (state_of files c.args.path.now) c.args.names.now)) same
    (subst (λ (xs : List AttrState). IfOk c.states_in.result (λ states. states.items ≡ xs))
    (map-asked (said_in c.in_ok-decided.decided.decided) (state_of (files_of c.self.inside.rules) c.args.path.now) c.args.names.now
    (λ name asked. ap (λ (o : Option AttrState). unwrap_or o Unspecified) (c.in_ok-decided.ensures name asked)))
    c.states_in.ensures)
