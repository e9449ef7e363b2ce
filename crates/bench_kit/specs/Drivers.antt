-- How a link to a driver in memory is seen: it tells nothing except its ends of input and how far it was shut.
use Rattle.std.specs.Prelude.{ℕ, None}
use Rattle.edge_kit.specs.Links.{Stage, Open, InputShut, Shut, LeftUntold, LinkSeen}
use Rattle.bench_kit.specs.declared.sessions.driver.Shutting.{Shutting}
use Rattle.bench_kit.specs.declared.sessions.driver.Shutting.TheVariants as driver

abbrev pub stage_of : Shutting → Stage
stage_of driver.Not = Open
stage_of driver.Input = InputShut
stage_of driver.Waited = Shut

abbrev pub seen_of : ℕ → Shutting → LinkSeen
seen_of ends shutting = record {
  sent = None;
  taken = None;
  left = LeftUntold;
  faults = 0;
  ends = ends;
  stage = stage_of shutting;
}
