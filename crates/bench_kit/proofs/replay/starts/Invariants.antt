use Rattle.std.proofs.Common.{◌≡◌, length}
use Rattle.checkout_core.specs.States.{AreBelow}
use Rattle.bench_kit.proofs.replay.starts.Given as goal

abbrev pub invariant-loop-path : goal.invariant-loop-path
invariant-loop-path l = record { below : AreBelow 2 l.starts.items; few : length l.starts.items ≡ l.path }
