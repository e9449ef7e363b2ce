use Rattle.std.proofs.Common.{◌≡◌, List, Option, IfOk, ap, subst}
use Rattle.std.specs.Option.{unwrap_or}
use Rattle.attr_line.specs.declared.state.AttrState.{AttrState}
use Rattle.attr_line.specs.declared.state.AttrState.TheVariants.{Unspecified}
use Rattle.attr_stack.specs.Decided.{state_of}
use Rattle.attr_stack.specs.Seen.{said_in}
use Rattle.attr_stack.proofs.Readings.{map-asked}
use Rattle.attr_stack.proofs.states.attributes_of.Goals as goal

pub returns : goal.returns
returns c =
    subst (λ (xs : List AttrState). IfOk c.states_in.result (λ states. states.items ≡ xs))
    (map-asked (said_in c.in_ok-decided.decided.decided) (state_of c.args.files.now c.args.path.now) c.args.names.now
    (λ name asked. ap (λ (o : Option AttrState). unwrap_or o Unspecified) (c.in_ok-decided.ensures name asked)))
    c.states_in.ensures
