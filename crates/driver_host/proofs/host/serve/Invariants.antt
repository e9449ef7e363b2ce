use Rattle.std.proofs.Common.{List, ℕ, length}
use Rattle.driver_host.specs.declared.work.Choice.{Choice}
use Rattle.driver_host.specs.Talks.{FitsOrOver, IsSameHost}
use Rattle.driver_host.specs.Hosts.{IsHeld, TakesOn, Grown}
use Rattle.driver_host.proofs.host.serve.Given as goal

abbrev pub invariant-loop-reader : goal.invariant-loop-reader
invariant-loop-reader g l = record {
  fits : FitsOrOver l.talk;
  on : (bytes : List ℕ) (cs : List Choice) (text : List ℕ) → IsHeld g.W.Work.told g.W.Work.latest bytes cs text l.initial.reader.unread l.initial.talk → TakesOn g.W.Work.told g.W.Work.latest bytes cs text l.initial.out.items l.out.items l.reader.unread l.talk;
  same : IsSameHost g.W.Work.told l.initial.talk l.talk;
  grown : Grown l.initial.out.items l.out.items;
}

abbrev pub decreases-loop-reader : goal.decreases-loop-reader
decreases-loop-reader g l = length l.reader.unread
