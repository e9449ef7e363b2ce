use Rattle.std.proofs.Common.{List, ℕ, length}
use Rattle.driver_host.specs.declared.work.Choice.{Choice}
use Rattle.driver_host.specs.Talks.{IsSameHost}
use Rattle.driver_host.specs.Hosts.{IsHeld, FedOn, IsReady, Grown}
use Rattle.driver_host.proofs.host.feed_all.Given as goal

abbrev pub invariant-loop-talk : goal.invariant-loop-talk
invariant-loop-talk g l = record {
  ready : IsReady l.talk l.reader.unread;
  fed : (bytes : List ℕ) (cs : List Choice) (text : List ℕ) → IsHeld g.W.Work.told g.W.Work.latest bytes cs text l.initial.reader.unread l.initial.talk → FedOn g.W.Work.told g.W.Work.latest bytes cs text l.initial.piece l.rest l.initial.out.items l.out.items l.reader.unread l.talk;
  same : IsSameHost g.W.Work.told l.initial.talk l.talk;
  grown : Grown l.initial.out.items l.out.items;
}

abbrev pub decreases-loop-talk : goal.decreases-loop-talk
decreases-loop-talk g l = length l.rest
