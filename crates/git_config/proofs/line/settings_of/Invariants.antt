use Rattle.std.proofs.Common.{◌+◌, ◌≤◌, length}
use Rattle.git_config.specs.Reading.{text_at}
use Rattle.git_config.specs.Seen.{place_of}
use Rattle.git_config.proofs.Steps.{IsStepping}
use Rattle.git_config.proofs.line.settings_of.Given as goal

abbrev pub invariant-steps : goal.invariant-steps
invariant-steps l = record {
  few : l.reader.line + length l.rest ≤ length l.text + 1;
  stepping : IsStepping (place_of l.reader l.rest) (text_at l.text);
}

abbrev pub decreases-steps : goal.decreases-steps
decreases-steps l = length l.rest
