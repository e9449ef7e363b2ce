use Rattle.std.proofs.Common.{◌≡◌, ◌+◌, ◌≤◌, ◌++◌, length}
use Rattle.git_config.specs.Text.{without_cr}
use Rattle.git_config.proofs.text.without_cr.Given as goal

abbrev pub invariant-stretches : goal.invariant-stretches
invariant-stretches l = record {
  within : length l.text.items + length l.rest ≤ length l.bytes;
  same : without_cr l.bytes ≡ l.text.items ++ without_cr l.rest;
}

abbrev pub decreases-stretches : goal.decreases-stretches
decreases-stretches l = length l.rest
