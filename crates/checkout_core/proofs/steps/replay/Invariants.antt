use Rattle.std.proofs.Common.{◌≡◌, Some, take}
use Rattle.checkout_core.specs.Steps.{replay}
use Rattle.checkout_core.proofs.steps.replay.Given as goal

abbrev pub invariant-loop-at : goal.invariant-loop-at
invariant-loop-at l = replay l.fn.state (take l.at l.events) ≡ Some l.state
