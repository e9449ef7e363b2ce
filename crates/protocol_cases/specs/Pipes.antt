-- How a pipe is seen: it tells nothing except its counts and how far it was shut.
use Rattle.std.specs.Prelude.{ℕ, Bool, true, false, None}
use Rattle.edge_kit.specs.Links.{Stage, Open, InputShut, Shut, LeftUntold, LinkSeen}

-- Whether its input was shut, and whether its end was waited for after that.
abbrev pub stage_of : Bool → Bool → Stage
stage_of false _ = Open
stage_of true false = InputShut
stage_of true true = Shut

abbrev pub seen_of : ℕ → ℕ → Bool → Bool → LinkSeen
seen_of faults ends shut waited = record {
  sent = None;
  taken = None;
  left = LeftUntold;
  faults = faults;
  ends = ends;
  stage = stage_of shut waited;
}
