use Rattle.std.proofs.Common.{◌≡◌, ◌<◌, ℕ, length, vec_capacity}
use Rattle.std.specs.Prelude.{slice_get}
use Rattle.checkout_core.specs.States.{verdict_at}
use Rattle.writer_pool.proofs.pool_end.verdicts_of.Given as goal

abbrev pub invariant-loop-path : goal.invariant-loop-path
invariant-loop-path g l = record {
  count : length l.verdicts.items ≡ l.path;
  room : vec_capacity l.verdicts ≡ vec_capacity l.fn.verdicts;
  each : (p : ℕ) → p < l.path → slice_get l.verdicts.items p ≡ verdict_at l.ended.shelf.core p;
}
