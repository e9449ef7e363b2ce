use Rattle.std.proofs.Common.{◌≡◌, ◌+◌, ◌≤◌, length}
use Rattle.git_config.specs.Value.{value_from, value_at}
use Rattle.git_config.specs.Seen.{reading_of}
use Rattle.git_config.proofs.value.value_of.Given as goal

abbrev pub invariant-bytes : goal.invariant-bytes
invariant-bytes l = record {
  within : l.draft.lines + length l.rest ≤ length l.text;
  same : value_at l.line l.text ≡ value_from l.line (reading_of l.draft) l.rest;
}

abbrev pub decreases-bytes : goal.decreases-bytes
decreases-bytes l = length l.rest
