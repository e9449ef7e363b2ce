use Rattle.std.proofs.Common.{◌≡◌, ◌++◌, None, map}
use Rattle.writer_pool.proofs.desks.worker_jobs.Given as goal

abbrev pub invariant-loop-pass : goal.invariant-loop-pass
invariant-loop-pass g l = record {
  whole : l.yielded ++ l.pass-iterator.rest.items ≡ l.fn.passes.items;
  jobs : l.jobs.items ≡ map (λ p. record { pass = p; desk = None }) l.yielded;
  can : (goal.iterator-loop-pass g).can_next l.pass-iterator;
  ends : (goal.iterator-loop-pass g).is_finite l.pass-iterator;
}
