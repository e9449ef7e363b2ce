use Rattle.std.proofs.Common.{ap, sym, ◌∙◌}
use Rattle.attr_line.specs.declared.state.AttrState.{AttrState}
use Rattle.checkout_plan.specs.Paths.{filter_place}
use Rattle.checkout_plan.specs.Seen.{place_in}
use Rattle.checkout_plan.proofs.starts.filter_place.Goals as goal

pub returns-in-Value : goal.returns-in-Value
returns-in-Value c =
    λ drivers are.
    c.copied.ensures ∙ c.get.ensures.value ∙ ap (place_in c.args.places.now) c.as_slice.ensures ∙ are c.in-Value.name
    ∙ ap (λ (s : AttrState). filter_place drivers s) (sym c.in-Value.is)
