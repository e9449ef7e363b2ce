use Rattle.std.proofs.Common.{sym, arith}
use Rattle.std.proofs.lemmas.List.{get_or_read_under}
use Rattle.attr_line.specs.declared.state.AttrState.TheVariants.{Unspecified}
use Rattle.checkout_plan.proofs.States.{by_parts}
use Rattle.checkout_plan.proofs.paths.path_by.Goals as goal

pub returns : goal.returns
returns c =
    by_parts c.args.settings.now c.args.entry.now c.args.states.now c.index-states-5.result c.as_slice.result.now c.filter_place-driver.result c.start_of-start.result _ c.conversion_of-conversion.result c.in_ok-path.path
    (get_or_read_under c.args.states.now 5 6 c.index-states-5.result Unspecified c.index-states-5.is (omega arith) (sym c.requires.six)) c.as_slice.ensures
    (c.filter_place-driver.ensures c.args.settings.now.drivers c.requires.places) c.start_of-start.ensures c.split_at.ensures.front c.conversion_of-conversion.ensures c.in_ok-path.ensures
