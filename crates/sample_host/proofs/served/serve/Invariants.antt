-- The host's text of all that was read is written.
use Rattle.std.proofs.Common.{ℕ, List}
use Rattle.driver_host.specs.declared.work.Choice.{Choice}
use Rattle.driver_host.specs.Talks.{IsSameHost}
use Rattle.driver_host.specs.Hosts.{IsHostAfter}
use Rattle.sample_host.specs.Serving.{Answers}
use Rattle.sample_host.proofs.served.serve.Given as goal

abbrev pub invariant-loop : goal.invariant-loop
invariant-loop g l = record {
  answers : (bytes : List ℕ) (cs : List Choice) (text : List ℕ)
      → IsHostAfter g.A.Work.told g.A.Work.latest bytes cs text l.initial.host
      → Answers g.A.Work.told g.A.Work.latest bytes cs text
      (g.R.Read.remaining l.initial.input) (g.W.Write.contents l.initial.out)
      l.host (g.R.Read.remaining l.input) (g.W.Write.contents l.out);
  same : IsSameHost g.A.Work.told l.initial.host.talk l.host.talk;
}
