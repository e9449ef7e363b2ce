use Rattle.std.proofs.Common.{◌∙◌, arith}
use Rattle.checkout_core.proofs.Sweeps.{sweep_begins, sweep_goes_on, sweep_ends}
use Rattle.checkout_core.proofs.state.apply.sweep_paths.Goals as goal

pub loop-at-init : goal.loop-at-init
loop-at-init c = sweep_begins c.args.paths.now c.args.driver c.args.sweep c.args.first c.args.end c.requires.within

pub loop-at-preserved : goal.loop-at-preserved
loop-at-preserved c =
    let e = c.requires.end_fits in let l = c.loop-at-test.true in
    sweep_goes_on c.args.paths.now c.loop-at.paths c.args.driver c.args.sweep c.loop-at.at c.swept_path.result _
    c.loop-at.invariant (omega arith) c.swept_path.ensures

pub returns : goal.returns
returns c = c.loop-at.invariant ∙ sweep_ends c.args.paths.now c.args.driver c.args.sweep c.args.first c.args.end
    c.loop-at.at c.requires.within c.loop-at-test.false
