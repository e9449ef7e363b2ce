use Rattle.std.proofs.Common.{◌≡◌}
use Rattle.checkout_core.specs.Effects.{each}
use Rattle.checkout_core.proofs.Sweeps.{swept_before}
use Rattle.checkout_core.proofs.state.apply.sweep_paths.Given as goal

abbrev pub invariant-loop-at : goal.invariant-loop-at
invariant-loop-at l = l.paths ≡ each (swept_before l.at l.driver l.sweep) l.fn.paths
