use Rattle.std.proofs.Common.{◌≤◌, ◌*◌, ◌^◌, refl, arith}
use Rattle.checkout_engine.proofs.rehearsed.bytes_of.Goals as goal

none : 0 ≤ 0 * 2 ^ 64
none = omega arith

pub loop-file-init : goal.loop-file-init
loop-file-init c = record { sum = refl; small = none }
